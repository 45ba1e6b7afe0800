-- Failures of intervals, one after another, and what holds the interval after them.
use Rattle.std.proofs.Common.{◌≡◌, ℕ, ◌+◌, ◌-◌, ◌≤◌, List, [], ◌∷◌, length, Some, None, refl, ◌∙◌, subst, arith}
use Rattle.std.specs.Prelude.{slice_get}
use Rattle.std.specs.List.{AllZip, range_with_len}
use Rattle.std.proofs.lemmas.List.FromFn.{length-range_with_len}
use Rattle.std.proofs.lemmas.Option.{slice_get-get_or, slice_get_within}
use Rattle.std.proofs.lemmas.Slice.Zip.{AllZip-long}
use Rattle.problems.specs.Problems.{ProblemData}
use Rattle.solutions.specs.declared.solving.tried.Failure.{Failure}
use Rattle.solutions.specs.Failures.{FailsFor}
use Rattle.solutions.specs.Outcomes.{FailsBy, first_of}
use Rattle.solutions.proofs.Telling.{failure-at}
use Rattle.problem_reasons.specs.declared.hold.Hold.{Hold}
use Rattle.problem_reasons.specs.declared.hold.Hold.TheVariants as hold
use Rattle.problem_reasons.specs.Holds.{IsHold}

-- the failures of so many intervals are so many
each-told : (p : ProblemData) (n : ℕ) (failures : List Failure) → AllZip (FailsFor p) (range_with_len (first_of p) n) failures → length failures ≡ n
each-told p n failures are = AllZip-long (FailsFor p) (range_with_len (first_of p) n) failures are ∙ length-range_with_len (first_of p) n

-- one failure for each interval before
abbrev AreBefore : ProblemData → ℕ → List Failure → Type 0
AreBefore p ii failures = AllZip (FailsFor p) (range_with_len (first_of p) (ii - first_of p)) failures

pub hold-after : (p : ProblemData) (ii : ℕ) (failures : List Failure) (failure : Failure) → first_of p ≤ ii → AreBefore p ii failures
    → slice_get failures (length failures - 1) ≡ Some failure → IsHold p ii (hold.Failure failure.cause)
hold-after p ii failures failure low are at =
    let many = each-told p (ii - first_of p) failures are in
    let within = slice_get_within failures (length failures - 1) failure at in
    let fails : FailsFor p (first_of p + (length failures - 1)) failure = failure-at p (first_of p) (ii - first_of p) (length failures - 1) failures failure are at in
    let before : first_of p + (length failures - 1) ≡ ii - 1 = omega arith in
    (omega arith, subst (λ n. FailsBy p n failure.cause) before fails.fails)

none-last : {X : Type 0} (xs : List X) → slice_get xs (length xs - 1) ≡ None → length xs ≡ 0
none-last [] e = refl
none-last (x ∷ xs) e = let some = slice_get-get_or (x ∷ xs) (length (x ∷ xs) - 1) x (omega arith) in absurd (cc)

pub hold-first : (p : ProblemData) (ii : ℕ) (failures : List Failure) (held : Hold) → first_of p ≤ ii → AreBefore p ii failures
    → slice_get failures (length failures - 1) ≡ None → IsHold p (first_of p) held → IsHold p ii held
hold-first p ii failures held low are none is =
    let many = each-told p (ii - first_of p) failures are in
    let empty = none-last failures none in
    let same : first_of p ≡ ii = omega arith in
    subst (λ n. IsHold p n held) same is
