-- A loop's intervals in turn.
use Rattle.std.proofs.Common.{◌≡◌, ℕ, zero, suc, ◌+◌, ◌-◌, ◌<◌, ◌≤◌, ⊎_elim, Bool, true, false, if◌then◌else◌, List, [], ◌∷◌, length, sym, refl, ap, ◌∙◌, subst, arith, slice_set, slice_index_or}
use Rattle.std.specs.Prelude.{Option, None}
use Rattle.std.proofs.lemmas.Bool.{false≢true, cases_lt}
use Rattle.collecting.specs.declared.cells.Settled.{Settled}
use Rattle.collecting.specs.declared.cells.LoopCells.{LoopCells}
use Rattle.kernel.specs.declared.kernels.parts.Parts.{Parts}
use Rattle.loop_listings.specs.declared.causes.Cause.{Cause}
use Rattle.candidates.specs.declared.outcomes.Outcome.{Outcome}
use Rattle.candidates.specs.declared.outcomes.Outcome.TheVariants.{Met, Failed}
use Rattle.loop_schedules.specs.Problems.{ProblemData, IsProblem, mii_of}
use Rattle.candidates.specs.Outcomes.{GivesKernel, FailsBy}
use Rattle.candidates.specs.Choices.{IsLeastMet, IsUnmet, NoneBefore}
use Rattle.collecting.specs.inner.Cells.{known_at, empty_from, is_full}
use Rattle.collecting.proofs.Filling.{set_length}
use Rattle.candidates.proofs.OneOutcomes.{one_outcome}

-- the first `above` intervals tried, none of which gives a kernel
pub record Climbed (p : ProblemData) (old now : LoopCells) (above retried : ℕ) (last : Cause) : Type 0 where
  pub none : NoneBefore p (mii_of p + above)
  pub fails : (k : ℕ) → above ≡ suc k → FailsBy p (mii_of p + k) last
  pub count : retried ≡ empty_from old.cells.items 0 above
  pub few : retried ≤ above
  pub long : length now.cells.items ≡ length old.cells.items
  pub rest : (a : ℕ) → above ≤ a → known_at now.cells.items a ≡ known_at old.cells.items a

pub plus_one : (n : ℕ) → suc n ≡ n + 1
plus_one n = omega arith

empty-snoc : (cs : List (Option Settled)) (a n : ℕ) → empty_from cs a (suc n) ≡ empty_from cs a n + (if is_full (known_at cs (a + n)) then 0 else 1)
empty-snoc cs a zero = subst (λ k. (if is_full (known_at cs a) then 0 else 1) + 0 ≡ 0 + (if is_full (known_at cs k) then 0 else 1)) (plain a) (omega arith)
  where
    plain : (a : ℕ) → a ≡ a + 0
    plain a = omega arith
empty-snoc cs a (suc n) = let r = empty-snoc cs (a + 1) n in
    subst (λ k. empty_from cs a (suc (suc n)) ≡ empty_from cs a (suc n) + (if is_full (known_at cs k) then 0 else 1)) (shift a n) (omega arith)
  where
    shift : (a k : ℕ) → a + 1 + k ≡ a + suc k
    shift a k = omega arith

set_past : (cs : List (Option Settled)) (k a : ℕ) (x : Option Settled) → k < a → known_at (slice_set cs k x) a ≡ known_at cs a
set_past [] k a x less = refl
set_past (c ∷ cs) zero zero x less = absurd (omega arith)
set_past (c ∷ cs) zero (suc a) x less = refl
set_past (c ∷ cs) (suc k) zero x less = absurd (omega arith)
set_past (c ∷ cs) (suc k) (suc a) x less = set_past cs k a x (omega arith)

abbrev is_met : Outcome → Bool
is_met (Met k) = true
is_met (Failed c) = false

none_on : (p : ProblemData) (ii : ℕ) (cause : Cause) → IsProblem p → mii_of p ≤ ii → NoneBefore p ii → FailsBy p ii cause → NoneBefore p (ii + 1)
none_on p ii cause is low none fails k kernel from less g = ⊎_elim (λ (before : k < ii). none k kernel from before g)
    (λ (at : ii ≤ k). false≢true (ap is_met (one_outcome p ii (Failed cause) (Met kernel) is low fails (subst (λ n. GivesKernel p n kernel) (same k ii at less) g))))
    (cases_lt k ii)
  where
    same : (k ii : ℕ) → ii ≤ k → k < ii + 1 → k ≡ ii
    same k ii a b = omega arith

one_more : (m a : ℕ) → m + a + 1 ≡ m + (a + 1)
one_more m a = omega arith

pub count_on : (p : ProblemData) (old now : LoopCells) (above retried tries : ℕ) (last : Cause) → Climbed p old now above retried last → tries ≡ (if is_full (known_at now.cells.items above) then 0 else 1)
    → retried + tries ≡ empty_from old.cells.items 0 (above + 1)
count_on p old now above retried tries last c tried =
    ap (λ n. n + tries) c.count ∙ ap (λ n. empty_from old.cells.items 0 above + n) (tried ∙ ap (λ x. if is_full x then 0 else 1) (c.rest above (omega arith)))
    ∙ ap (λ k. empty_from old.cells.items 0 above + (if is_full (known_at old.cells.items k) then 0 else 1)) (plain above)
    ∙ sym (empty-snoc old.cells.items 0 above) ∙ ap (empty_from old.cells.items 0) (plus_one above)
  where
    plain : (a : ℕ) → a ≡ 0 + a
    plain a = omega arith

pub climbed_on : (p : ProblemData) (old now next : LoopCells) (above retried tries : ℕ) (last cause : Cause) → IsProblem p → Climbed p old now above retried last → FailsBy p (mii_of p + above) cause
    → next.cells.items ≡ slice_set now.cells.items above None → tries ≡ (if is_full (known_at now.cells.items above) then 0 else 1) → Climbed p old next (above + 1) (retried + tries) cause
climbed_on p old now next above retried tries last cause is c fails set tried = record {
  none = subst (NoneBefore p) (one_more (mii_of p) above) (none_on p (mii_of p + above) cause is (omega arith) c.none fails);
  fails = λ k at. subst (λ n. FailsBy p (mii_of p + n) cause) (same above k at) fails;
  count = count_on p old now above retried tries last c tried;
  few = let f = c.few in let t = at_most_one (is_full (known_at now.cells.items above)) tries tried in omega arith;
  long = ap length set ∙ set_length now.cells.items above None ∙ c.long;
  rest = λ a past. ap (λ cs. known_at cs a) set ∙ set_past now.cells.items above a None (omega arith) ∙ c.rest a (omega arith);
}
  where
    same : (a k : ℕ) → a + 1 ≡ suc k → a ≡ k
    same a k h = omega arith

    at_most_one : (b : Bool) (n : ℕ) → n ≡ (if b then 0 else 1) → n ≤ 1
    at_most_one true n h = omega arith
    at_most_one false n h = omega arith

pub met_here : (p : ProblemData) (old now : LoopCells) (above retried m : ℕ) (last : Cause) (kernel : Parts) → Climbed p old now above retried last → GivesKernel p (mii_of p + above) kernel → above ≤ p.ceiling → m ≡ mii_of p
    → IsLeastMet p (m + above) kernel
met_here p old now above retried m last kernel c gives few same = subst (λ k. IsLeastMet p (k + above) kernel) (sym same)
    (record { from_first = omega arith; to_last = omega arith; is_given = gives; least = c.none })

pub count_met : (p : ProblemData) (old now : LoopCells) (above retried tries m : ℕ) (last : Cause) → Climbed p old now above retried last → tries ≡ (if is_full (known_at now.cells.items above) then 0 else 1) → m ≡ mii_of p
    → retried + tries ≡ empty_from old.cells.items 0 (m + above + 1 - mii_of p)
count_met p old now above retried tries m last c tried same = count_on p old now above retried tries last c tried ∙ ap (empty_from old.cells.items 0) (back m (mii_of p) above same)
  where
    back : (m q a : ℕ) → m ≡ q → a + 1 ≡ m + a + 1 - q
    back m q a h = omega arith

pub unmet_here : (p : ProblemData) (old now : LoopCells) (above retried : ℕ) (last : Cause) → Climbed p old now above retried last → above ≡ p.ceiling + 1 → IsUnmet p last
unmet_here p old now above retried last c at = record {
  fails = c.fails p.ceiling (at ∙ sym (plus_one p.ceiling));
  none = subst (NoneBefore p) (ap (λ n. mii_of p + n) at ∙ sym (one_more (mii_of p) p.ceiling)) c.none;
}

pub cell_is : (cs : List (Option Settled)) (a : ℕ) (d : Option Settled) → a < length cs → slice_index_or cs a d ≡ known_at cs a
cell_is [] a d near = absurd (omega arith)
cell_is (c ∷ cs) zero d near = refl
cell_is (c ∷ cs) (suc a) d near = cell_is cs a d (omega arith)
