-- What a cell more that is full comes to.
use Rattle.std.proofs.Common.{◌≡◌, ℕ, zero, suc, ◌+◌, ◌-◌, ◌<◌, ◌≤◌, ⊎_elim, Bool, true, false, List, [], ◌∷◌, length, sym, refl, ap, ◌∙◌, subst, arith, slice_index_or, slice_set}
use Rattle.std.specs.Prelude.{◌||◌, ◌&&◌, ◌==◌, Option, Some}
use Rattle.std.specs.List.{AllZip}
use Rattle.std.proofs.lemmas.Bool.{cases_lt}
use Rattle.std.proofs.lemmas.Bool.Decides.{nat_tests}
use Rattle.collecting.specs.declared.cells.Settled.{Settled}
use Rattle.collecting.specs.declared.cells.LoopCells.{LoopCells}
use Rattle.reports.specs.declared.entry.Entry.{Entry}
use Rattle.reports.specs.declared.entry.Found.{Found}
use Rattle.reports.specs.declared.entry.Found.TheVariants.{Won, Failed, Beaten, Unsettled}
use Rattle.loop_schedules.specs.Problems.{ProblemData, mii_of}
use Rattle.reports.specs.Entries.{IsTrueAt, settles, is_settled, mii_at}
use Rattle.collecting.specs.inner.Cells.{AreCellsOf, IsTrueCell, known_at, known_in, is_full, kept_of}

or_false : (b : Bool) → b ≡ (b || false)
or_false true = refl
or_false false = refl

or_true : (b : Bool) → true ≡ (b || true)
or_true true = refl
or_true false = refl

past : (a : ℕ) → (0 == suc a) ≡ false
past a = grind (arith, nat_tests)

before : (a : ℕ) → (suc a == 0) ≡ false
before a = grind (arith, nat_tests)

in_cells : (cs : List (Option Settled)) (k a : ℕ) (s : Settled) → k < length cs → is_full (known_at (slice_set cs k (Some s)) a) ≡ (is_full (known_at cs a) || (k == a))
in_cells [] k a s near = absurd (omega arith)
in_cells (c ∷ cs) zero zero s near = or_true (is_full c)
in_cells (c ∷ cs) zero (suc a) s near = or_false (is_full (known_at cs a)) ∙ ap (λ b. is_full (known_at cs a) || b) (sym (past a))
in_cells (c ∷ cs) (suc k) zero s near = or_false (is_full c) ∙ ap (λ b. is_full c || b) (sym (before k))
in_cells (c ∷ cs) (suc k) (suc a) s near = in_cells cs k a s (omega arith) ∙ ap (λ b. is_full (known_at cs a) || b) (same_test k a)
  where
    same_test : (k a : ℕ) → (k == a) ≡ (suc k == suc a)
    same_test k a = grind (arith, nat_tests)

in_rows : (rows : List LoopCells) (n l a : ℕ) (row r : LoopCells) (hit : Bool) → n < length rows → is_full (known_at row.cells.items a) ≡ (is_full (known_at (slice_index_or rows n r).cells.items a) || hit)
    → is_full (known_in (slice_set rows n row) l a) ≡ (is_full (known_in rows l a) || ((n == l) && hit))
in_rows [] n l a row r hit near is = absurd (omega arith)
in_rows (x ∷ xs) zero zero a row r hit near is = is
in_rows (x ∷ xs) zero (suc l) a row r hit near is = or_false (is_full (known_in xs l a)) ∙ ap (λ b. is_full (known_in xs l a) || (b && hit)) (sym (past l))
in_rows (x ∷ xs) (suc n) zero a row r hit near is = or_false (is_full (known_at x.cells.items a)) ∙ ap (λ b. is_full (known_at x.cells.items a) || (b && hit)) (sym (before n))
in_rows (x ∷ xs) (suc n) (suc l) a row r hit near is = in_rows xs n l a row r hit (omega arith) is ∙ ap (λ b. is_full (known_in xs l a) || (b && hit)) (same_test n l)
  where
    same_test : (k a : ℕ) → (k == a) ≡ (suc k == suc a)
    same_test k a = grind (arith, nat_tests)

-- the test of a cell is that of its entry
same_hit : (n l a k m p ii : ℕ) → (n ≡ l → m ≡ p) → ii ≡ m + k → ((n == l) && (k == a)) ≡ (((n == l) && (ii == p + a)) && true)
same_hit n l a k m p ii same at = ⊎_elim (λ (less : n < l). grind (arith, nat_tests))
    (λ (no : l ≤ n). ⊎_elim (λ (less : l < n). grind (arith, nat_tests)) (λ (up : n ≤ l). equal (omega arith)) (cases_lt l n))
    (cases_lt n l)
  where
    equal : n ≡ l → ((n == l) && (k == a)) ≡ (((n == l) && (ii == p + a)) && true)
    equal is = let e = same is in grind (arith, nat_tests)

pub row_there : (ps : List ProblemData) (rows : List LoopCells) → AllZip AreCellsOf ps rows → length rows ≡ length ps
row_there [] [] h = refl
row_there [] (r ∷ rs) h = absurd h
row_there (p ∷ ps) [] h = absurd h
row_there (p ∷ ps) (r ∷ rs) h = let k = row_there ps rs h.1 in omega arith

pub row_of : (ps : List ProblemData) (rows : List LoopCells) (n : ℕ) (p : ProblemData) (r : LoopCells) → AllZip AreCellsOf ps rows → n < length ps → AreCellsOf (slice_index_or ps n p) (slice_index_or rows n r)
row_of [] rows n p r h near = absurd (omega arith)
row_of (q ∷ ps) [] n p r h near = absurd h
row_of (q ∷ ps) (x ∷ rs) zero p r h near = h.0
row_of (q ∷ ps) (x ∷ rs) (suc n) p r h near = row_of ps rs n p r h.1 (omega arith)

pub rows_set : (ps : List ProblemData) (rows : List LoopCells) (n : ℕ) (p : ProblemData) (row : LoopCells) → AllZip AreCellsOf ps rows → n < length ps → AreCellsOf (slice_index_or ps n p) row → AllZip AreCellsOf ps (slice_set rows n row)
rows_set [] rows n p row h near is = absurd (omega arith)
rows_set (q ∷ ps) [] n p row h near is = absurd h
rows_set (q ∷ ps) (x ∷ rs) zero p row h near is = (is, h.1)
rows_set (q ∷ ps) (x ∷ rs) (suc n) p row h near is = (h.0, rows_set ps rs n p row h.1 (omega arith) is)

pub set_length : (cs : List (Option Settled)) (k : ℕ) (x : Option Settled) → length (slice_set cs k x) ≡ length cs
set_length [] k x = refl
set_length (c ∷ cs) zero x = refl
set_length (c ∷ cs) (suc k) x = ap suc (set_length cs k x)

set_truth : (P : ℕ → Option Settled → Type 0) (cs : List (Option Settled)) (k : ℕ) (x : Option Settled) → P k x → ((a : ℕ) → P a (known_at cs a)) → (a : ℕ) → P a (known_at (slice_set cs k x) a)
set_truth P [] k x new old a = old a
set_truth P (c ∷ cs) zero x new old zero = new
set_truth P (c ∷ cs) zero x new old (suc a) = old (suc a)
set_truth P (c ∷ cs) (suc k) x new old zero = old zero
set_truth P (c ∷ cs) (suc k) x new old (suc a) = set_truth (λ b. P (suc b)) cs k x new (λ b. old (suc b)) a

kept_true : (f : Found) (p : ProblemData) (ii : ℕ) → IsTrueAt p ii f → IsTrueCell p ii (kept_of f)
kept_true (Won k) p ii t = t
kept_true (Failed c) p ii t = t
kept_true Beaten p ii t = tt
kept_true Unsettled p ii t = tt

kept_settled : (f : Found) → is_full (kept_of f) ≡ is_settled f
kept_settled (Won k) = refl
kept_settled (Failed c) = refl
kept_settled Beaten = refl
kept_settled Unsettled = refl

pub row_put : (p : ProblemData) (row next : LoopCells) (k ii : ℕ) (f : Found) (s : Settled) → AreCellsOf p row → next.cells.items ≡ slice_set row.cells.items k (Some s) → IsTrueAt p ii f → kept_of f ≡ Some s → ii ≡ mii_of p + k → AreCellsOf p next
row_put p row next k ii f s is put t kept at = record {
  long = ap length put ∙ set_length row.cells.items k (Some s) ∙ is.long;
  truth = λ a. subst (λ cs. IsTrueCell p (mii_of p + a) (known_at cs a)) (sym put)
      (set_truth (λ b x. IsTrueCell p (mii_of p + b) x) row.cells.items k (Some s) (subst (λ i. IsTrueCell p i (Some s)) at (subst (IsTrueCell p ii) kept (kept_true f p ii t))) is.truth a);
}

pub put_fills : (ps : List ProblemData) (rows : List LoopCells) (e : Entry) (k l a : ℕ) (s : Settled) (r next : LoopCells) → e.loop_number < length rows → k < length (slice_index_or rows e.loop_number r).cells.items
    → next.cells.items ≡ slice_set (slice_index_or rows e.loop_number r).cells.items k (Some s) → kept_of e.found ≡ Some s → e.interval ≡ mii_at ps e.loop_number + k
    → is_full (known_in (slice_set rows e.loop_number next) l a) ≡ (is_full (known_in rows l a) || settles l (mii_at ps l + a) e)
put_fills ps rows e k l a s r next near inside put kept at =
    in_rows rows e.loop_number l a next r (k == a) near (ap (λ cs. is_full (known_at cs a)) put ∙ in_cells (slice_index_or rows e.loop_number r).cells.items k a s inside)
    ∙ ap (λ b. is_full (known_in rows l a) || b) (same_hit e.loop_number l a k (mii_at ps e.loop_number) (mii_at ps l) e.interval (λ is. ap (mii_at ps) is) at
    ∙ ap (λ b. ((e.loop_number == l) && (e.interval == mii_at ps l + a)) && b) (sym (sym (kept_settled e.found) ∙ ap is_full kept)))

pub inside_row : (p : ProblemData) (row : LoopCells) (ii m : ℕ) → AreCellsOf p row → ii ≤ mii_of p + p.ceiling → m ≡ mii_of p → ii - m < length row.cells.items
inside_row p row ii m is high same = let l = is.long in omega arith

pub split_at : (ii m q : ℕ) → m ≡ q → q ≤ ii → ii ≡ q + (ii - m)
split_at ii m q same low = omega arith
