-- What variants bring the loops of a file in all, by what is found of each loop.
use Rattle.std.proofs.Common.{◌≡◌, ℕ, zero, suc, ◌+◌, ◌*◌, ◌^◌, ◌<◌, ◌≤◌, Bool, true, false, cond, ◌||◌, ◌&&◌, List, [], ◌∷◌, ◌++◌, length, get_or, map, refl, sym, ap, ap₂, ◌∙◌, subst, zero-add, arith}
use Rattle.std.specs.Prelude.{◌==◌, codes, count_by, if◌then◌else◌, Option, Some, None, is_none, is_some, slice_get}
use Rattle.std.specs.List.{All, AllZip, flat_map, list_any, range_with_len, sum_by, zip}
use Rattle.std.proofs.lemmas.List.{get_or_default}
use Rattle.std.proofs.lemmas.List.Elements.{All-cons, All-nil}
use Rattle.std.proofs.lemmas.List.Sums.{sum_by-cons, sum_by-le}
use Rattle.std.proofs.lemmas.Option.{slice_get-get_or}
use Rattle.std.proofs.lemmas.Slice.Zip.{AllZip-long}
use Rattle.machine_data.specs.Machines.{MachineData}
use Rattle.machine_data.specs.declared.limits.TheConstants.{MAX_INTERVAL, MAX_LOOPS}
use Rattle.lower_bounds.specs.Texts.{AreTexts}
use Rattle.writing.specs.Words.{last_line, told}
use Rattle.loop_schedules.specs.Problems.{IsProblemOf, ProblemData}
use Rattle.written.specs.Written.{Written}
use Rattle.machine_variants.specs.declared.variant.Variant.{Variant}
use Rattle.machine_variants.specs.Variants.{concerns, passes_limit, variants_of}
use Rattle.variants.specs.declared.found.finding.Standing.{Standing}
use Rattle.variants.specs.declared.found.finding.Standing.TheVariants as standing
use Rattle.variants.specs.declared.found.finding.Finding.{Finding}
use Rattle.variants.specs.declared.found.finding.Finding.TheVariants as finding
use Rattle.variants.specs.declared.found.finding.LoopFindings.{LoopFindings}
use Rattle.variants.specs.Intervals.{IsIntervalOf, IsStanding, IsVariedInterval}
use Rattle.variants.specs.Findings.{AreFindings, IsFoundOn}
use Rattle.variants.specs.Texts.{variant_text}
use Rattle.variants.specs.Totals.{AreTotals, IsTotalOf, IsTotalOn, change_text, concerns_some, cycles, is_longer, number_longer, sum_text}
use Rattle.variants.specs.inner.Columns.{column_text, interval_at, interval_in, interval_of, is_concerned, is_found, is_limit, is_past, own_failed, own_interval, own_sum, sum_at, sums_text, total_line, total_lines}
use Rattle.variants.proofs.Concerned.{left-out, taken}
use Rattle.variants.proofs.Others.{others-change-nothing}
use Rattle.variants.proofs.Zipped.{each-at}

-- an interval that is chosen is within the limit
interval-few : (problem : ProblemData) (interval : Option ℕ) → IsIntervalOf problem interval → cycles interval ≤ MAX_INTERVAL
interval-few problem None is = omega arith
interval-few problem (Some ii) is =
    let placed = is.1.is_given.is_schedule in
    subst (λ n. n ≤ MAX_INTERVAL) placed.3 placed.4.ii_few

-- what a loop has on the machine as it is
own-is : (machine : MachineData) (problem : ProblemData) (has : Standing) → IsStanding machine problem has → IsIntervalOf problem (interval_of has)
own-is machine problem standing.Failed is = is
own-is machine problem (standing.Met ii number) is = is.0

-- .. and on a variant within the limits
varied-is : (machine : MachineData) (problem : ProblemData) (variant : Variant) (has : Standing) (found : Option Finding) → IsProblemOf machine problem.loop problem.ratio problem.ceiling problem
    → IsStanding machine problem has → IsFoundOn machine problem variant found → passes_limit machine variant ≡ false → IsVariedInterval machine problem variant (interval_in has (Some found))
varied-is machine problem variant has None is s f within =
    others-change-nothing machine problem.loop problem.ratio problem.ceiling variant (interval_of has) f
    (record { problem = problem; is_problem = is; is_interval = own-is machine problem has s })
varied-is machine problem variant has (Some finding.Limit) is s f within = cc (f.1, within)
varied-is machine problem variant has (Some finding.Failed) is s f within = f.1.1
varied-is machine problem variant has (Some (finding.Met ii)) is s f within = f.1.1

in-few : (machine : MachineData) (problem : ProblemData) (variant : Variant) (has : Standing) (found : Option Finding) → IsStanding machine problem has → IsFoundOn machine problem variant found
    → cycles (interval_in has (Some found)) ≤ MAX_INTERVAL
in-few machine problem variant has None s f = interval-few problem (interval_of has) (own-is machine problem has s)
in-few machine problem variant has (Some finding.Limit) s f = omega arith
in-few machine problem variant has (Some finding.Failed) s f = omega arith
in-few machine problem variant has (Some (finding.Met ii)) s f = interval-few f.1.1.problem (Some ii) f.1.1.is_interval

-- what is found of a loop on the variant of a number
found-at : (machine : MachineData) (problem : ProblemData) (found : LoopFindings) (number : ℕ) (variant : Variant) → AreFindings machine problem found → number < length (variants_of machine)
    → variant ≡ get_or (variants_of machine) number variant
    → (x : Option Finding) × IsFoundOn machine problem variant x × (slice_get found.findings.items number ≡ Some x)
found-at machine problem found number variant is low at =
    let cells = found.findings.items in
    let x : Option Finding = get_or cells number None in (
      x,
      subst (λ (v : Variant). IsFoundOn machine problem v x) (sym at) (each-at (IsFoundOn machine problem) (variants_of machine) cells number variant None is.each_finding low),
      slice_get-get_or cells number None (subst (λ n. number < n) (sym (AllZip-long (IsFoundOn machine problem) (variants_of machine) cells is.each_finding)) low),
    )

told-is : (machine : MachineData) (problem : ProblemData) (variant : Variant) (x : Option Finding) → IsFoundOn machine problem variant x → is_found (Some x) ≡ concerns machine problem.loop variant
told-is machine problem variant None f = sym f
told-is machine problem variant (Some x) f = sym f.0

-- it is a limit that is told where the variant passes one, and concerns the loop
limit-is : (machine : MachineData) (problem : ProblemData) (variant : Variant) (x : Option Finding) → IsFoundOn machine problem variant x
    → is_limit (Some x) ≡ (is_found (Some x) && passes_limit machine variant)
limit-is machine problem variant None f = refl
limit-is machine problem variant (Some finding.Limit) f = sym f.1
limit-is machine problem variant (Some finding.Failed) f = sym f.1.0
limit-is machine problem variant (Some (finding.Met ii)) f = sym f.1.0

both-or : (a b c : Bool) → ((a && c) || (b && c)) ≡ ((a || b) && c)
both-or true true true = refl
both-or true true false = refl
both-or true false true = refl
both-or true false false = refl
both-or false true true = refl
both-or false true false = refl
both-or false false true = refl
both-or false false false = refl

module _ (machine : MachineData) (number : ℕ) (variant : Variant) (low : number < length (variants_of machine)) (at : variant ≡ get_or (variants_of machine) number variant) where
  -- the variant concerns some loop
  concerned-is : (problems : List ProblemData) (loops : List LoopFindings) → AllZip (AreFindings machine) problems loops
      → list_any (is_concerned number) loops ≡ concerns_some machine problems variant
  concerned-is [] [] h = refl
  concerned-is [] (found ∷ loops) h = absurd h
  concerned-is (p ∷ problems) [] h = absurd h
  concerned-is (p ∷ problems) (found ∷ loops) h =
      let here = found-at machine p found number variant h.0 low at in
      ap₂ (λ (a b : Bool). a || b) (ap is_found here.2 ∙ told-is machine p variant here.0 here.1) (concerned-is problems loops h.1)

  -- .. and passes a limit where some loop tells so
  past-is : (problems : List ProblemData) (loops : List LoopFindings) → AllZip (AreFindings machine) problems loops
      → list_any (is_past number) loops ≡ (list_any (is_concerned number) loops && passes_limit machine variant)
  past-is [] [] h = refl
  past-is [] (found ∷ loops) h = absurd h
  past-is (p ∷ problems) [] h = absurd h
  past-is (p ∷ problems) (found ∷ loops) h =
      let here = found-at machine p found number variant h.0 low at in
      let own : is_past number found ≡ (is_concerned number found && passes_limit machine variant) =
      ap is_limit here.2 ∙ limit-is machine p variant here.0 here.1 ∙ ap (λ (b : Bool). b && passes_limit machine variant) (ap is_found (sym here.2)) in
      ap₂ (λ (a b : Bool). a || b) own (past-is problems loops h.1) ∙ both-or (is_concerned number found) (list_any (is_concerned number) loops) (passes_limit machine variant)

  -- the intervals there
  varied-are : passes_limit machine variant ≡ false → (problems : List ProblemData) (loops : List LoopFindings) → AllZip (AreFindings machine) problems loops
      → AllZip (λ problem interval. IsVariedInterval machine problem variant interval) problems (map (interval_at number) loops)
  varied-are within [] [] h = tt
  varied-are within [] (found ∷ loops) h = absurd h
  varied-are within (p ∷ problems) [] h = absurd h
  varied-are within (p ∷ problems) (found ∷ loops) h =
      let here = found-at machine p found number variant h.0 low at in
      let is = varied-is machine p variant found.standing here.0 h.0.is_problem h.0.is_standing here.1 within in (
        subst (λ (o : Option (Option Finding)). IsVariedInterval machine p variant (interval_in found.standing o)) (sym here.2) is,
        varied-are within problems loops h.1,
      )

-- the intervals on the machine as it is
own-are : (machine : MachineData) (problems : List ProblemData) (loops : List LoopFindings) → AllZip (AreFindings machine) problems loops → AllZip IsIntervalOf problems (map own_interval loops)
own-are machine [] [] h = tt
own-are machine [] (found ∷ loops) h = absurd h
own-are machine (p ∷ problems) [] h = absurd h
own-are machine (p ∷ problems) (found ∷ loops) h = (own-is machine p found.standing h.0.is_standing, own-are machine problems loops h.1)

-- sums and counts of what is made of each loop

sum-made : (f : LoopFindings → Option ℕ) (loops : List LoopFindings) → sum_by (λ found. cycles (f found)) loops ≡ sum_by cycles (map f loops)
sum-made f [] = refl
sum-made f (found ∷ loops) = sum_by-cons (λ (e : LoopFindings). cycles (f e)) found loops ∙ ap (λ n. cycles (f found) + n) (sum-made f loops) ∙ sym (sum_by-cons cycles (f found) (map f loops))

count-made : (p : Option ℕ → Bool) (f : LoopFindings → Option ℕ) (loops : List LoopFindings) → count_by (λ found. p (f found)) loops ≡ count_by p (map f loops)
count-made p f [] = refl
count-made p f (found ∷ loops) =
    sum_by-cons (λ (e : LoopFindings). cond (p (f e)) 1 0) found loops ∙ ap (λ n. cond (p (f found)) 1 0 + n) (count-made p f loops)
    ∙ sym (sum_by-cons (λ (o : Option ℕ). cond (p o) 1 0) (f found) (map f loops))

longer-made : (f g : LoopFindings → Option ℕ) (loops : List LoopFindings) → count_by (λ found. is_longer (f found) (g found)) loops ≡ number_longer (map f loops) (map g loops)
longer-made f g [] = refl
longer-made f g (found ∷ loops) =
    sum_by-cons (λ (e : LoopFindings). cond (is_longer (f e) (g e)) 1 0) found loops ∙ ap (λ n. cond (is_longer (f found) (g found)) 1 0 + n) (longer-made f g loops)
    ∙ sym (sum_by-cons (λ (both : Option ℕ × Option ℕ). cond (is_longer both.0 both.1) 1 0) (f found, g found) (zip (map f loops) (map g loops)))

-- the text of a column is that of the intervals
column-is : (number : ℕ) (loops : List LoopFindings)
    → column_text number loops ≡ (sum_text (map (interval_at number) loops) ++ change_text (map own_interval loops) (map (interval_at number) loops)) ++ codes "\n"
column-is number loops =
    let there = interval_at number in
    ap₂ (λ (s c : List ℕ). (s ++ c) ++ codes "\n")
    (ap₂ (λ (ii failed : ℕ). told (codes " ii ") ii ++ told (codes " failed ") failed) (sum-made there loops) (count-made is_none there loops))
    (ap₂ (λ (shorter longer : ℕ). told (codes " shorter ") shorter ++ told (codes " longer ") longer) (longer-made own_interval there loops) (longer-made there own_interval loops))

-- the line of a variant, or nothing where it concerns no loop

abbrev result_text : List LoopFindings → ℕ → List ℕ
result_text loops number = if list_any (is_past number) loops then codes " -\n" else column_text number loops

result-is : (machine : MachineData) (problems : List ProblemData) (loops : List LoopFindings) (number : ℕ) (variant : Variant) → number < length (variants_of machine)
    → variant ≡ get_or (variants_of machine) number variant → AllZip (AreFindings machine) problems loops → list_any (is_concerned number) loops ≡ true
    → IsTotalOn machine problems (map own_interval loops) variant (passes_limit machine variant) (result_text loops number)
result-is machine problems loops number variant low at h told =
    let past : list_any (is_past number) loops ≡ passes_limit machine variant =
    past-is machine number variant low at problems loops h ∙ ap (λ (b : Bool). b && passes_limit machine variant) told in
    subst (λ (b : Bool). IsTotalOn machine problems (map own_interval loops) variant (passes_limit machine variant) (if b then codes " -\n" else column_text number loops)) (sym past)
    (go (passes_limit machine variant) refl)
  where
    go : (b : Bool) → passes_limit machine variant ≡ b → IsTotalOn machine problems (map own_interval loops) variant b (if b then codes " -\n" else column_text number loops)
    go true is = refl
    go false is = (map (interval_at number) loops, varied-are machine number variant low at is problems loops h, column-is number loops)

abbrev IsTotal : MachineData → List ProblemData → List LoopFindings → Variant → List ℕ → Type 0
IsTotal machine problems loops variant text = IsTotalOn machine problems (map own_interval loops) variant (passes_limit machine variant) text

abbrev text_of : MachineData → Variant → List ℕ → List ℕ
text_of machine variant text = variant_text machine variant ++ text

-- one more line, where the variant concerns some loop
line-more : (machine : MachineData) (problems : List ProblemData) (loops : List LoopFindings) (number : ℕ) (variant : Variant) (variants : List Variant) (lines : List ℕ) (told : Bool)
    → number < length (variants_of machine) → variant ≡ get_or (variants_of machine) number variant → AllZip (AreFindings machine) problems loops
    → AreTotals machine problems (map own_interval loops) variants lines → list_any (is_concerned number) loops ≡ told
    → AreTotals machine problems (map own_interval loops) (variant ∷ variants) ((if told then variant_text machine variant ++ result_text loops number else []) ++ lines)
line-more machine problems loops number variant variants lines true low at h rest is =
    let some : concerns_some machine problems variant ≡ true = sym (concerned-is machine number variant low at problems loops h) ∙ is in
    let right = result-is machine problems loops number variant low at h is in
    subst (λ (vs : List Variant). AreTexts (IsTotal machine problems loops) (text_of machine) vs ((variant_text machine variant ++ result_text loops number) ++ lines))
    (sym (taken (concerns_some machine problems) variant variants some))
    (record {
      values = result_text loops number ∷ rest.values;
      are_right = (right, rest.are_right);
      is_text = ap (λ (t : List ℕ). (variant_text machine variant ++ result_text loops number) ++ t) rest.is_text;
    })
line-more machine problems loops number variant variants lines false low at h rest is =
    let none : concerns_some machine problems variant ≡ false = sym (concerned-is machine number variant low at problems loops h) ∙ is in
    subst (λ (vs : List Variant). AreTexts (IsTotal machine problems loops) (text_of machine) vs lines) (sym (left-out (concerns_some machine problems) variant variants none)) rest

-- the lines of variants from a number on
abbrev lines_from : MachineData → List LoopFindings → List Variant → ℕ → List ℕ
lines_from machine loops variants first = flat_map (λ both. total_line machine loops both.0 both.1) (zip variants (range_with_len first (length variants)))

-- .. which are those of the machine
abbrev AreFrom : MachineData → List Variant → ℕ → Type 0
AreFrom machine variants first =
    (k : ℕ) (d : Variant) → k < length variants → (first + k < length (variants_of machine)) × (get_or variants k d ≡ get_or (variants_of machine) (first + k) (get_or variants k d))

from-next : (machine : MachineData) (v : Variant) (variants : List Variant) (first : ℕ) → AreFrom machine (v ∷ variants) first → AreFrom machine variants (first + 1)
from-next machine v variants first at k d within =
    let next = at (suc k) d (omega (arith, within)) in
    let e : first + suc k ≡ first + 1 + k = omega arith in
    subst (λ n. (n < length (variants_of machine)) × (get_or variants k d ≡ get_or (variants_of machine) n (get_or variants k d))) e next

lines-are : (machine : MachineData) (problems : List ProblemData) (loops : List LoopFindings) → AllZip (AreFindings machine) problems loops → (variants : List Variant) (first : ℕ)
    → AreFrom machine variants first → AreTotals machine problems (map own_interval loops) variants (lines_from machine loops variants first)
lines-are machine problems loops h [] first at = record { values = []; are_right = tt; is_text = refl }
lines-are machine problems loops h (v ∷ variants) first at =
    let here = at 0 v (omega arith) in
    let e : first + 0 ≡ first = omega arith in
    let low : first < length (variants_of machine) = omega (arith, here.0) in
    let same : v ≡ get_or (variants_of machine) first v = subst (λ n. v ≡ get_or (variants_of machine) n v) e here.1 in
    line-more machine problems loops first v variants (lines_from machine loops variants (first + 1)) (list_any (is_concerned first) loops) low same h
    (lines-are machine problems loops h variants (first + 1) (from-next machine v variants first at)) refl

totals-are : (machine : MachineData) (problems : List ProblemData) (loops : List LoopFindings) → AllZip (AreFindings machine) problems loops
    → AreTotals machine problems (map own_interval loops) (variants_of machine) (total_lines machine loops (variants_of machine))
totals-are machine problems loops h =
    let all = variants_of machine in
    lines-are machine problems loops h all 0
    (λ k d within. subst (λ n. (n < length all) × (get_or all k d ≡ get_or all n (get_or all k d))) (sym (zero-add k)) (within, get_or_default all k d (get_or all k d) within))

-- all that is told
pub is-total : (machine : MachineData) (problems : List ProblemData) (loops : List LoopFindings) (number met failed : ℕ) (head lines text : List ℕ) (written : Written)
    → AllZip (AreFindings machine) problems loops → number ≡ length problems → met ≡ count_by (λ found. is_some (own_interval found)) loops → failed ≡ own_failed loops
    → head ≡ (told (codes "total loops ") number ++ sums_text (own_sum loops) (own_failed loops)) ++ codes "\n" → lines ≡ head ++ total_lines machine loops (variants_of machine)
    → text ≡ lines ++ last_line (codes "loops ") number met failed → written.text ≡ text → written.all_met ≡ (failed == 0) → IsTotalOf machine problems written
is-total machine problems loops number met failed head lines text written h n m f is_head is_lines is_text w all =
    let own = map own_interval loops in
    let none : failed ≡ count_by is_none own = f ∙ count-made is_none own_interval loops in
    let some : met ≡ count_by is_some own = m ∙ count-made is_some own_interval loops in
    let sums : sums_text (own_sum loops) (own_failed loops) ≡ sum_text own =
    ap₂ (λ (ii failed : ℕ). told (codes " ii ") ii ++ told (codes " failed ") failed) (sum-made own_interval loops) (count-made is_none own_interval loops) in
    let begun : head ≡ (told (codes "total loops ") (length problems) ++ sum_text own) ++ codes "\n" =
    is_head ∙ ap₂ (λ (k : ℕ) (s : List ℕ). (told (codes "total loops ") k ++ s) ++ codes "\n") n sums in
    record {
      own = own;
      each_own = own-are machine problems loops h;
      lines = total_lines machine loops (variants_of machine);
      are_totals = totals-are machine problems loops h;
      is_text = w ∙ is_text ∙ ap₂ (λ (s t : List ℕ). s ++ t) (is_lines ∙ ap (λ (s : List ℕ). s ++ total_lines machine loops (variants_of machine)) begun)
          (λ i. last_line (codes "loops ") (n i) (some i) (none i));
      all_met = all ∙ ap (λ k. k == 0) none;
    }

-- the sums are few, so that they can be added up

own-few : (machine : MachineData) (problems : List ProblemData) (loops : List LoopFindings) → AllZip (AreFindings machine) problems loops
    → All (λ found. cycles (own_interval found) ≤ MAX_INTERVAL) loops
own-few machine [] [] h = All-nil (λ (found : LoopFindings). cycles (own_interval found) ≤ MAX_INTERVAL)
own-few machine [] (found ∷ loops) h = absurd h
own-few machine (p ∷ problems) [] h = absurd h
own-few machine (p ∷ problems) (found ∷ loops) h =
    All-cons (λ (e : LoopFindings). cycles (own_interval e) ≤ MAX_INTERVAL) found loops (interval-few p (own_interval found) (own-is machine p found.standing h.0.is_standing))
    (own-few machine problems loops h.1)

-- whatever is found on a variant of some number
cell-few : (machine : MachineData) (problem : ProblemData) (has : Standing) → IsStanding machine problem has → (variants : List Variant) (found : List (Option Finding)) (number : ℕ)
    → AllZip (IsFoundOn machine problem) variants found → cycles (interval_in has (slice_get found number)) ≤ MAX_INTERVAL
cell-few machine problem has s [] [] number h = interval-few problem (interval_of has) (own-is machine problem has s)
cell-few machine problem has s [] (x ∷ found) number h = absurd h
cell-few machine problem has s (v ∷ variants) [] number h = absurd h
cell-few machine problem has s (v ∷ variants) (x ∷ found) zero h = in-few machine problem v has x s h.0
cell-few machine problem has s (v ∷ variants) (x ∷ found) (suc number) h = cell-few machine problem has s variants found number h.1

all-few : (machine : MachineData) (number : ℕ) (problems : List ProblemData) (loops : List LoopFindings) → AllZip (AreFindings machine) problems loops
    → All (λ found. cycles (interval_at number found) ≤ MAX_INTERVAL) loops
all-few machine number [] [] h = All-nil (λ (found : LoopFindings). cycles (interval_at number found) ≤ MAX_INTERVAL)
all-few machine number [] (found ∷ loops) h = absurd h
all-few machine number (p ∷ problems) [] h = absurd h
all-few machine number (p ∷ problems) (found ∷ loops) h =
    All-cons (λ (e : LoopFindings). cycles (interval_at number e) ≤ MAX_INTERVAL) found loops
    (cell-few machine p found.standing h.0.is_standing (variants_of machine) found.findings.items number h.0.each_finding) (all-few machine number problems loops h.1)

sum-few : (sum long : ℕ) → sum ≤ long * MAX_INTERVAL → long ≤ MAX_LOOPS → sum < 2 ^ 64
sum-few sum long most few = grind arith

pub own_sum-few : (machine : MachineData) (problems : List ProblemData) (loops : List LoopFindings) → AllZip (AreFindings machine) problems loops → length problems ≤ MAX_LOOPS
    → own_sum loops < 2 ^ 64
own_sum-few machine problems loops h few =
    sum-few (own_sum loops) (length loops) (sum_by-le (λ found. cycles (own_interval found)) MAX_INTERVAL loops (own-few machine problems loops h))
    (subst (λ n. n ≤ MAX_LOOPS) (sym (AllZip-long (AreFindings machine) problems loops h)) few)

pub sum_at-few : (machine : MachineData) (problems : List ProblemData) (loops : List LoopFindings) → AllZip (AreFindings machine) problems loops → length problems ≤ MAX_LOOPS
    → (number : ℕ) → sum_at number loops < 2 ^ 64
sum_at-few machine problems loops h few number =
    sum-few (sum_at number loops) (length loops) (sum_by-le (λ found. cycles (interval_at number found)) MAX_INTERVAL loops (all-few machine number problems loops h))
    (subst (λ n. n ≤ MAX_LOOPS) (sym (AllZip-long (AreFindings machine) problems loops h)) few)
