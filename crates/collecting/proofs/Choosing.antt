-- Choices of loops in turn.
use Rattle.std.proofs.Common.{◌≡◌, ℕ, zero, suc, ◌+◌, ◌*◌, ◌<◌, ◌≤◌, false, if◌then◌else◌, List, [], ◌∷◌, ◌++◌, length, sym, refl, ap, ◌∙◌, subst, arith, slice_index_or, slice_set, take, drop}
use Rattle.std.specs.Prelude.{Option, None, Result, Ok, Err, IfOk, replicate}
use Rattle.std.specs.List.{AllZip}
use Rattle.collecting.specs.declared.cells.Settled.{Settled}
use Rattle.collecting.specs.declared.cells.LoopCells.{LoopCells}
use Rattle.loop_listings.specs.declared.choices.Choice.{Choice}
use Rattle.loop_schedules.specs.Problems.{ProblemData, mii_of}
use Rattle.candidates.specs.Choices.{IsChoice}
use Rattle.reports.specs.Entries.{ReportData, is_settled_in, mii_at}
use Rattle.reports.specs.Gathered.{tried, missing_in, retried_from}
use Rattle.collecting.specs.inner.Cells.{AddsChoice, AddsEmpty, AreEmptyCells, ChosenData, IsFirst, AreCellsOf, IsTrueCell, known_at, known_in, empty_from, is_full}

pub first_on : (ps : List ProblemData) (rs : List LoopCells) (cs : List Choice) (retried : ℕ) (c : Choice) (p : ProblemData) (r : LoopCells) → IsFirst ps rs cs retried → length cs < length ps → length rs ≡ length ps
    → IsChoice (slice_index_or ps (length cs) p) c
    → IsFirst ps rs (cs ++ c ∷ []) (retried + empty_from (slice_index_or rs (length cs) r).cells.items 0 (tried (slice_index_or ps (length cs) p) c))
first_on [] rs cs retried c p r h near same is = absurd (omega arith)
first_on (q ∷ ps) [] cs retried c p r h near same is = absurd (omega arith)
first_on (q ∷ ps) (x ∷ rs) [] retried c p r h near same is = (is, (0, shift (empty_from x.cells.items 0 (tried q c)) h, refl))
  where
    shift : (m : ℕ) → retried ≡ 0 → retried + m ≡ m + 0
    shift m h = omega arith
first_on (q ∷ ps) (x ∷ rs) (d ∷ cs) retried c p r h near same is =
    let rest = first_on ps rs cs h.1.0 c p r h.1.2 (omega arith) (omega arith) is in
    (h.0, (h.1.0 + empty_from (slice_index_or rs (length cs) r).cells.items 0 (tried (slice_index_or ps (length cs) p) c), (let e = h.1.1 in omega arith), rest))

pub first_all : (ps : List ProblemData) (rs : List LoopCells) (cs : List Choice) (retried : ℕ) → IsFirst ps rs cs retried → length cs ≡ length ps → AllZip IsChoice ps cs
first_all [] rs [] retried h same = tt
first_all [] rs (c ∷ cs) retried h same = absurd h
first_all (p ∷ ps) rs [] retried h same = absurd (omega arith)
first_all (p ∷ ps) [] (c ∷ cs) retried h same = absurd h
first_all (p ∷ ps) (r ∷ rs) (c ∷ cs) retried h same = (h.0, first_all ps rs cs h.1.0 h.1.2 (omega arith))

-- empty cells are what no report settles
same_missing : (cs : List (Option Settled)) (reports : List ReportData) (l m a n : ℕ) → ((b : ℕ) → is_full (known_at cs b) ≡ is_settled_in reports l (m + b)) → empty_from cs a n ≡ missing_in reports l (m + a) n
same_missing cs reports l m a zero each = refl
same_missing cs reports l m a (suc n) each =
    let r = same_missing cs reports l m (a + 1) n each in
    let shifted : missing_in reports l (m + (a + 1)) n ≡ missing_in reports l (m + a + 1) n = ap (λ k. missing_in reports l k n) (shift m a) in
    ap (λ b. (if b then 0 else 1) + empty_from cs (a + 1) n) (each a) ∙ ap (λ k. (if is_settled_in reports l (m + a) then 0 else 1) + k) (r ∙ shifted)
  where
    shift : (m a : ℕ) → m + (a + 1) ≡ m + a + 1
    shift m a = omega arith

same_first : (qs : List ProblemData) (reports : List ReportData) (l : ℕ) (ps : List ProblemData) (rs : List LoopCells) (cs : List Choice) (retried : ℕ) → IsFirst ps rs cs retried → length cs ≡ length ps
    → ((k : ℕ) → k < length ps → mii_at qs (l + k) ≡ mii_at ps k) → ((k b : ℕ) → is_full (known_in rs k b) ≡ is_settled_in reports (l + k) (mii_at qs (l + k) + b)) → retried ≡ retried_from reports l ps cs
same_first qs reports l [] rs [] retried h same each full = h
same_first qs reports l [] rs (c ∷ cs) retried h same each full = absurd h
same_first qs reports l (p ∷ ps) rs [] retried h same each full = absurd (omega arith)
same_first qs reports l (p ∷ ps) [] (c ∷ cs) retried h same each full = absurd h
same_first qs reports l (p ∷ ps) (r ∷ rs) (c ∷ cs) retried h same each full =
    let least : mii_at qs l ≡ mii_of p = subst (λ m. mii_at qs m ≡ mii_of p) (none l) (each 0 (omega arith)) in
    let here : empty_from r.cells.items 0 (tried p c) ≡ missing_in reports l (mii_of p) (tried p c)
    = same_missing r.cells.items reports l (mii_of p) 0 (tried p c) (λ b. full 0 b ∙ ap (λ k. is_settled_in reports k (mii_at qs k + b)) (none l) ∙ ap (λ m. is_settled_in reports l (m + b)) least)
    ∙ ap (λ m. missing_in reports l m (tried p c)) (none (mii_of p)) in
    let rest = same_first qs reports (l + 1) ps rs cs h.1.0 h.1.2 (omega arith)
    (λ k near. subst (λ m. mii_at qs m ≡ mii_at ps k) (shift l k) (each (suc k) (omega arith)))
    (λ k b. subst (λ m. is_full (known_in rs k b) ≡ is_settled_in reports m (mii_at qs m + b)) (shift l k) (full (suc k) b)) in
    h.1.1 ∙ ap (λ n. n + h.1.0) here ∙ ap (λ n. missing_in reports l (mii_of p) (tried p c) + n) rest
  where
    none : (a : ℕ) → a + 0 ≡ a
    none a = omega arith

    shift : (a k : ℕ) → a + suc k ≡ a + 1 + k
    shift a k = omega arith

pub first_retried : (ps : List ProblemData) (reports : List ReportData) (rs : List LoopCells) (cs : List Choice) (retried : ℕ) → IsFirst ps rs cs retried → length cs ≡ length ps
    → ((k b : ℕ) → is_full (known_in rs k b) ≡ is_settled_in reports k (mii_at ps k + b)) → retried ≡ retried_from reports 0 ps cs
first_retried ps reports rs cs retried h same full = same_first ps reports 0 ps rs cs retried h same (λ k near. ap (mii_at ps) (zero_plus k)) (λ k b. full k b ∙ ap (λ m. is_settled_in reports m (mii_at ps m + b)) (sym (zero_plus k)))
  where
    zero_plus : (k : ℕ) → 0 + k ≡ k
    zero_plus k = omega arith

-- empty rows
abbrev the_none : ℕ → List (Option Settled)
the_none n = replicate n None

none_at : (n a : ℕ) → known_at (replicate n None) a ≡ None
none_at zero a = refl
none_at (suc n) zero = refl
none_at (suc n) (suc a) = none_at n a

pub empty_on : (ps : List ProblemData) (rs : List LoopCells) (r : LoopCells) (p : ProblemData) → AreEmptyCells ps rs → length rs < length ps → r.cells.items ≡ replicate ((slice_index_or ps (length rs) p).ceiling + 1) None
    → AreEmptyCells ps (rs ++ r ∷ [])
empty_on [] rs r p h near is = absurd (omega arith)
empty_on (q ∷ ps) [] r p h near is = (is, tt)
empty_on (q ∷ ps) (x ∷ rs) r p h near is = (h.0, empty_on ps rs r p h.1 (omega arith) is)

length_none : (n : ℕ) → length (the_none n) ≡ n
length_none zero = refl
length_none (suc n) = ap suc (length_none n)

pub empty_full : (ps : List ProblemData) (rs : List LoopCells) (l a : ℕ) → AreEmptyCells ps rs → is_full (known_in rs l a) ≡ false
empty_full ps [] l a h = refl
empty_full [] (r ∷ rs) l a h = absurd h
empty_full (p ∷ ps) (r ∷ rs) zero a h = ap (λ cs. is_full (known_at cs a)) h.0 ∙ ap is_full (none_at (p.ceiling + 1) a)
empty_full (p ∷ ps) (r ∷ rs) (suc l) a h = empty_full ps rs l a h.1

pub empty_rows_of : (ps : List ProblemData) (rs : List LoopCells) → AreEmptyCells ps rs → length rs ≡ length ps → AllZip AreCellsOf ps rs
empty_rows_of [] [] h same = tt
empty_rows_of [] (r ∷ rs) h same = absurd h
empty_rows_of (p ∷ ps) [] h same = absurd (omega arith)
empty_rows_of (p ∷ ps) (r ∷ rs) h same = (
  record {
    long = ap length h.0 ∙ length_none (p.ceiling + 1);
    truth = λ a. subst (IsTrueCell p (mii_of p + a)) (sym (ap (λ cs. known_at cs a) h.0 ∙ none_at (p.ceiling + 1) a)) tt;
  },
  empty_rows_of ps rs h.1 (omega arith),
)

rows_length : (rs : List LoopCells) (n : ℕ) (r : LoopCells) → length (slice_set rs n r) ≡ length rs
rows_length [] n r = refl
rows_length (x ∷ rs) zero r = refl
rows_length (x ∷ rs) (suc n) r = ap suc (rows_length rs n r)

rows_past : (rs : List LoopCells) (n k : ℕ) (r d : LoopCells) → n < k → slice_index_or (slice_set rs n r) k d ≡ slice_index_or rs k d
rows_past [] n k r d less = refl
rows_past (x ∷ rs) zero zero r d less = absurd (omega arith)
rows_past (x ∷ rs) zero (suc k) r d less = refl
rows_past (x ∷ rs) (suc n) zero r d less = absurd (omega arith)
rows_past (x ∷ rs) (suc n) (suc k) r d less = rows_past rs n k r d (omega arith)

abbrev pub ChosenSoFar : List ProblemData → List LoopCells → List LoopCells → ChosenData → ℕ → Type 0
ChosenSoFar ps old rs chosen n = (length chosen.choices ≡ n) × IsFirst ps old chosen.choices chosen.retried × (chosen.retried ≤ 256 * n)
    × (length rs ≡ length old) × ((k : ℕ) (r : LoopCells) → n ≤ k → slice_index_or rs k r ≡ slice_index_or old k r)

pub chosen_on : (ps : List ProblemData) (old rs : List LoopCells) (before after : ChosenData) (n : ℕ) (p : ProblemData) (r next : LoopCells) → ChosenSoFar ps old rs before n → n < length ps → length old ≡ length ps → p ≡ slice_index_or ps n p
    → AddsChoice p (slice_index_or rs n r) before after → ChosenSoFar ps old (slice_set rs n next) after (n + 1)
chosen_on ps old rs before after n p r next h near same at adds = (
  ap length adds.choices ∙ snoc before.choices adds.choice ∙ ap (λ k. k + 1) h.0,
  subst (λ cs. IsFirst ps old cs after.retried) (sym adds.choices) (subst (IsFirst ps old (before.choices ++ adds.choice ∷ [])) (sym sum) on),
  (let few = adds.few in let had = h.2 in omega arith),
  rows_length rs n next ∙ h.3,
  λ k d past. rows_past rs n k next d (omega arith) ∙ h.4 k d (omega arith),
)
  where
    snoc : (cs : List Choice) (c : Choice) → length (cs ++ c ∷ []) ≡ length cs + 1
    snoc [] c = refl
    snoc (x ∷ cs) c = let s = snoc cs c in omega arith

    m : ℕ
    m = length before.choices

    its : p ≡ slice_index_or ps m p
    its = at ∙ ap (λ k. slice_index_or ps k p) (sym h.0)

    on : IsFirst ps old (before.choices ++ adds.choice ∷ []) (before.retried + empty_from (slice_index_or old m r).cells.items 0 (tried (slice_index_or ps m p) adds.choice))
    on = first_on ps old before.choices before.retried adds.choice p r h.1 (let e = h.0 in omega arith) same (subst (λ q. IsChoice q adds.choice) its adds.is_choice)

    sum : after.retried ≡ before.retried + empty_from (slice_index_or old m r).cells.items 0 (tried (slice_index_or ps m p) adds.choice)
    sum = adds.retried ∙ ap (λ q. before.retried + empty_from (slice_index_or rs n r).cells.items 0 (tried q adds.choice)) its
        ∙ ap (λ (x : LoopCells). before.retried + empty_from x.cells.items 0 (tried (slice_index_or ps m p) adds.choice)) (h.4 n r (omega arith) ∙ ap (λ k. slice_index_or old k r) (sym h.0))

pub both_ok : {T E : Type 0} (r : Result T E) (P Q R : T → Type 0) → ((x : T) → P x → Q x → R x) → IfOk r P → IfOk r Q → IfOk r R
both_ok (Ok x) P Q R f p q = f x p q
both_ok (Err e) P Q R f p q = tt

pub empty_more : (ps : List ProblemData) (before after : List LoopCells) (n : ℕ) (p : ProblemData) → length before ≡ n → AreEmptyCells ps before → n < length ps → p ≡ slice_index_or ps n p → AddsEmpty p before after
    → (length after ≡ n + 1) × AreEmptyCells ps after
empty_more ps before after n p long are near at adds = (
  ap length adds.rows ∙ snoc before adds.row ∙ ap (λ k. k + 1) long,
  subst (AreEmptyCells ps) (sym adds.rows) (empty_on ps before adds.row p are (omega arith)
      (adds.empty ∙ ap (λ (q : ProblemData). the_none (q.ceiling + 1)) (at ∙ ap (λ k. slice_index_or ps k p) (sym long)))),
)
  where
    snoc : (rs : List LoopCells) (r : LoopCells) → length (rs ++ r ∷ []) ≡ length rs + 1
    snoc [] r = refl
    snoc (x ∷ rs) r = let s = snoc rs r in omega arith

pub written : (xs ys : List LoopCells) (n : ℕ) → length xs ≡ length ys → n ≡ length ys → take n (xs ++ drop (length xs) ys) ≡ xs
written [] [] zero same all = refl
written [] [] (suc n) same all = absurd (omega arith)
written [] (y ∷ ys) n same all = absurd (omega arith)
written (x ∷ xs) [] n same all = absurd (omega arith)
written (x ∷ xs) (y ∷ ys) zero same all = absurd (omega arith)
written (x ∷ xs) (y ∷ ys) (suc n) same all = ap (λ r. x ∷ r) (written xs ys n (omega arith) (omega arith))
