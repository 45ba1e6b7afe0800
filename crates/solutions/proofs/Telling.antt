-- Intervals tried in turn, with why each gives no solution.
use Rattle.std.proofs.Common.{◌≡◌, ℕ, suc, zero, ◌+◌, ◌-◌, ◌<◌, ◌≤◌, List, [], ◌∷◌, ◌++◌, length, map, get_or, Option, Some, Vec, Global, refl, sym, ap, ◌∙◌, subst, arith}
use Rattle.std.specs.Prelude.{slice_get}
use Rattle.std.specs.List.{AllZip, range_with_len}
use Rattle.std.proofs.lemmas.List.{get_or_push, length_push}
use Rattle.std.proofs.lemmas.List.FromFn.{get_or-range_with_len, length-range_with_len, map-range_with_len_more}
use Rattle.std.proofs.lemmas.Option.{slice_get-get_or, slice_get_within}
use Rattle.std.proofs.lemmas.Slice.Zip.{AllZip-long, all_zipped_more}
use Rattle.modulo.specs.declared.outcome.attempts.Culprit.{Culprit}
use Rattle.problems.specs.Problems.{ProblemData, IsProblem}
use Rattle.solutions.specs.declared.solving.outcome.Cause.{Cause}
use Rattle.solutions.specs.declared.solving.outcome.Outcome.{Outcome}
use Rattle.solutions.specs.declared.solving.outcome.Outcome.TheVariants.{Met, Failed}
use Rattle.solutions.specs.declared.solving.told.Told.{Told}
use Rattle.solutions.specs.declared.solving.tried.Failure.{Failure}
use Rattle.solutions.specs.Failures.{FailsFor, IsEvidence}
use Rattle.solutions.specs.Outcomes.{Gives, first_of, last_of}
use Rattle.solutions.specs.Solutions.{SolutionData}
use Rattle.solutions.specs.Told.{IsLastEvidence, IsTold, LastIs, culprit_in, failures_of, last_culprit}
use Rattle.solutions.proofs.Rightness.{given-is_right}
use Rattle.solutions.proofs.Rising.{Risen, met_here, risen_none, risen_on, unmet_here}

-- lists

-- of pairs each is right
zip-at : {A B : Type 0} (R : A → B → Type 0) (xs : List A) (ys : List B) (k : ℕ) (d : A) (y : B) → AllZip R xs ys → slice_get ys k ≡ Some y → R (get_or xs k d) y
zip-at R [] [] k d y h e = cc
zip-at R [] (b ∷ ys) k d y h e = absurd h
zip-at R (a ∷ xs) [] k d y h e = absurd h
zip-at R (a ∷ xs) (b ∷ ys) zero d y h e = let same : b ≡ y = cc in subst (R a) same h.0
zip-at R (a ∷ xs) (b ∷ ys) (suc k) d y h e = zip-at R xs ys k d y h.1 e

map-same : (xs : List ℕ) → map (λ x. x) xs ≡ xs
map-same [] = refl
map-same (x ∷ xs) = ap (λ ys. x ∷ ys) (map-same xs)

range-more : (a n : ℕ) → range_with_len a (n + 1) ≡ range_with_len a n ++ (a + n) ∷ []
range-more a n = sym (map-same (range_with_len a (n + 1))) ∙ map-range_with_len_more (λ x. x) a n (a + n) refl ∙ ap (λ xs. xs ++ (a + n) ∷ []) (map-same (range_with_len a n))

last-pushed : {X : Type 0} (xs : List X) (x : X) → slice_get (xs ++ x ∷ []) (length (xs ++ x ∷ []) - 1) ≡ Some x
last-pushed xs x =
    let long = length_push xs x in
    let at : length xs ≡ length (xs ++ x ∷ []) - 1 = omega arith in
    slice_get-get_or (xs ++ x ∷ []) (length (xs ++ x ∷ []) - 1) x (omega arith) ∙ ap Some (get_or_push xs x x (length (xs ++ x ∷ []) - 1) at)

-- intervals

-- the first `above` intervals were tried, none of which gives a solution, with a failure of each; the cause is that of the last
pub record AreTold (p : ProblemData) (above : ℕ) (last : Cause) (failures : List Failure) : Type 0 where
  pub risen : Risen p above last
  pub are : AllZip (FailsFor p) (range_with_len (first_of p) above) failures
  pub last_is : 0 < above → LastIs (Failed last) failures

pub told-none : (p : ProblemData) (last : Cause) → AreTold p 0 last []
told-none p last = record { risen = risen_none p last; are = tt; last_is = λ some. absurd (omega arith) }

pub told-more : (p : ProblemData) (above first : ℕ) (last : Cause) (failure : Failure) (failures : List Failure) → IsProblem p → first ≡ first_of p
    → AreTold p above last failures → FailsFor p (first + above) failure → AreTold p (above + 1) failure.cause (failures ++ failure ∷ [])
told-more p above first last failure failures is same t fails = record {
  risen = risen_on p above first last failure.cause is same t.risen fails.fails;
  are = subst (λ ns. AllZip (FailsFor p) ns (failures ++ failure ∷ [])) (sym (range-more (first_of p) above))
      (all_zipped_more (FailsFor p) (range_with_len (first_of p) above) failures (first_of p + above) failure t.are (subst (λ n. FailsFor p (n + above) failure) same fails));
  last_is = λ some. (failure, last-pushed failures failure, refl);
}

pub told-met : (p : ProblemData) (above first : ℕ) (last : Cause) (failures : Vec Failure Global) (s : SolutionData) → IsProblem p → first ≡ first_of p
    → AreTold p above last failures.items → Gives p (first + above) s → above ≤ p.scheduling.ceiling → IsTold p (record { failures = failures; outcome = Met s })
told-met p above first last failures s is same t gives few = record {
  is_solved = met_here p above first last s t.risen same gives few;
  is_right = given-is_right p (first + above) s is gives;
  are_failures = subst (λ n. AllZip (FailsFor p) (range_with_len (first_of p) n) failures.items) (count first (first_of p) above s.ii same gives.same_interval) t.are;
  last = tt;
}
  where
    count : (m n above ii : ℕ) → m ≡ n → ii ≡ m + above → above ≡ ii - n
    count m n above ii same at = omega arith

pub told-unmet : (p : ProblemData) (above : ℕ) (last : Cause) (failures : Vec Failure Global) → AreTold p above last failures.items → above ≡ p.scheduling.ceiling + 1
    → IsTold p (record { failures = failures; outcome = Failed last })
told-unmet p above last failures t at = record {
  is_solved = unmet_here p above last t.risen at;
  is_right = tt;
  are_failures = subst (λ n. AllZip (FailsFor p) (range_with_len (first_of p) n) failures.items) at t.are;
  last = t.last_is (omega arith);
}

-- each failure is that of its interval
pub failure-at : (p : ProblemData) (first n k : ℕ) (failures : List Failure) (failure : Failure) → AllZip (FailsFor p) (range_with_len first n) failures
    → slice_get failures k ≡ Some failure → FailsFor p (first + k) failure
failure-at p first n k failures failure are at =
    let within : k < length failures = slice_get_within failures k failure at in
    let long : length failures ≡ n = AllZip-long (FailsFor p) (range_with_len first n) failures are ∙ length-range_with_len first n in
    subst (λ ii. FailsFor p ii failure) (get_or-range_with_len first n k 0 (omega arith)) (zip-at (FailsFor p) (range_with_len first n) failures k 0 failure are at)

-- the last one is that of the last interval
pub last-evidence : (p : ProblemData) (cause : Cause) (failures : List Failure) (failure : Failure)
    → AllZip (FailsFor p) (range_with_len (first_of p) (p.scheduling.ceiling + 1)) failures → slice_get failures (length failures - 1) ≡ Some failure → failure.cause ≡ cause
    → IsEvidence p (last_of p) cause failure.culprit
last-evidence p cause failures failure are at by =
    let long : length failures ≡ p.scheduling.ceiling + 1
    = AllZip-long (FailsFor p) (range_with_len (first_of p) (p.scheduling.ceiling + 1)) failures are ∙ length-range_with_len (first_of p) (p.scheduling.ceiling + 1) in
    let fails : FailsFor p (first_of p + (length failures - 1)) failure = failure-at p (first_of p) (p.scheduling.ceiling + 1) (length failures - 1) failures failure are at in
    let last : first_of p + (length failures - 1) ≡ last_of p = omega arith in
    subst (λ n. IsEvidence p n cause failure.culprit) last (subst (λ (c : Cause). IsEvidence p (first_of p + (length failures - 1)) c failure.culprit) by fails.is)

-- where no interval gives a solution, the culprits of the last failure are those of the outcome
pub last-is : (o : Outcome) (failures : List Failure) (failure : Failure) (found : Option Culprit) → ((s : SolutionData) → o ≡ Met s → ⊥)
    → slice_get failures (length failures - 1) ≡ Some failure → found ≡ failure.culprit → found ≡ last_culprit o failures
last-is (Met s) failures failure found unmet at e = absurd (unmet s refl)
last-is (Failed cause) failures failure found unmet at e = e ∙ ap culprit_in (sym at)

pub told-evidence : (p : ProblemData) (told : Told) (o : Outcome) (failure : Failure) (found : Option Culprit) → IsTold p told → told.outcome ≡ o → ((s : SolutionData) → o ≡ Met s → ⊥)
    → slice_get told.failures.items (length told.failures.items - 1) ≡ Some failure → found ≡ failure.culprit → IsLastEvidence p o found
told-evidence p told (Met s) failure found is same unmet at e = absurd (unmet s refl)
told-evidence p told (Failed cause) failure found is same unmet at e =
    let last : LastIs (Failed cause) told.failures.items = subst (λ (o : Outcome). LastIs o told.failures.items) same is.last in
    let are = subst (λ (o : Outcome). AllZip (FailsFor p) (range_with_len (first_of p) (failures_of p o)) told.failures.items) same is.are_failures in
    let one : last.0 ≡ failure = (let a = last.1 in cc) in
    let by : failure.cause ≡ cause = sym (ap (λ (f : Failure). f.cause) one) ∙ last.2 in
    subst (IsEvidence p (last_of p) cause) (sym e) (last-evidence p cause told.failures.items failure are at by)
