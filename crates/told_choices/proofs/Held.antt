-- What holds an interval, by the reasons of those before it.
use Rattle.std.proofs.Common.{◌≡◌, ℕ, suc, zero, ◌+◌, ◌-◌, ◌<◌, ◌≤◌, Bool, List, [], ◌∷◌, length, get_or, Some, None, refl, ◌∙◌, subst, arith}
use Rattle.std.specs.Prelude.{slice_get}
use Rattle.std.specs.List.{AllZip, range_with_len}
use Rattle.std.proofs.lemmas.List.FromFn.{get_or-range_with_len, length-range_with_len}
use Rattle.std.proofs.lemmas.Option.{slice_get-get_or, slice_get_within}
use Rattle.std.proofs.lemmas.Slice.Zip.{AllZip-long}
use Rattle.loop_schedules.specs.Problems.{ProblemData, mii_of}
use Rattle.candidates.specs.Outcomes.{FailsBy}
use Rattle.told_choices.specs.declared.hold.Hold.{Hold}
use Rattle.told_choices.specs.declared.hold.Hold.TheVariants as hold
use Rattle.told_choices.specs.declared.why.Why.{Why}
use Rattle.told_choices.specs.Holds.{IsHold}
use Rattle.told_choices.specs.Whys.{FailsAs, why_cause}

-- of pairs each is right
pub zip-at : {A B : Type 0} (R : A → B → Type 0) (xs : List A) (ys : List B) (k : ℕ) (d : A) (y : B) → AllZip R xs ys → slice_get ys k ≡ Some y → R (get_or xs k d) y
zip-at R [] [] k d y h e = cc
zip-at R [] (b ∷ ys) k d y h e = absurd h
zip-at R (a ∷ xs) [] k d y h e = absurd h
zip-at R (a ∷ xs) (b ∷ ys) zero d y h e = let same : b ≡ y = cc in subst (R a) same h.0
zip-at R (a ∷ xs) (b ∷ ys) (suc k) d y h e = zip-at R xs ys k d y h.1 e

-- the reasons of so many intervals are so many
pub each-told : (p : ProblemData) (n : ℕ) (reasons : List Why) → AllZip (FailsAs p) (range_with_len (mii_of p) n) reasons → length reasons ≡ n
each-told p n reasons are = AllZip-long (FailsAs p) (range_with_len (mii_of p) n) reasons are ∙ length-range_with_len (mii_of p) n

-- each reason is that of its interval
pub reason-at : (p : ProblemData) (n k : ℕ) (reasons : List Why) (reason : Why) → AllZip (FailsAs p) (range_with_len (mii_of p) n) reasons
    → slice_get reasons k ≡ Some reason → FailsAs p (mii_of p + k) reason
reason-at p n k reasons reason are at =
    let within : k < length reasons = slice_get_within reasons k reason at in
    let long : length reasons ≡ n = each-told p n reasons are in
    subst (λ ii. FailsAs p ii reason) (get_or-range_with_len (mii_of p) n k 0 (omega arith)) (zip-at (FailsAs p) (range_with_len (mii_of p) n) reasons k 0 reason are at)

-- a reason for each interval before
abbrev AreBefore : ProblemData → ℕ → List Why → Type 0
AreBefore p ii reasons = AllZip (FailsAs p) (range_with_len (mii_of p) (ii - mii_of p)) reasons

pub hold-after : (p : ProblemData) (free : Bool) (ii : ℕ) (reasons : List Why) (reason : Why) → mii_of p ≤ ii → AreBefore p ii reasons
    → slice_get reasons (length reasons - 1) ≡ Some reason → IsHold p free ii (hold.Failure (why_cause reason))
hold-after p free ii reasons reason low are at =
    let many = each-told p (ii - mii_of p) reasons are in
    let within = slice_get_within reasons (length reasons - 1) reason at in
    let fails : FailsAs p (mii_of p + (length reasons - 1)) reason = reason-at p (ii - mii_of p) (length reasons - 1) reasons reason are at in
    let before : mii_of p + (length reasons - 1) ≡ ii - 1 = omega arith in
    (omega arith, subst (λ n. FailsBy p n (why_cause reason)) before fails.fails)

none-last : {X : Type 0} (xs : List X) → slice_get xs (length xs - 1) ≡ None → length xs ≡ 0
none-last [] e = refl
none-last (x ∷ xs) e = let some = slice_get-get_or (x ∷ xs) (length (x ∷ xs) - 1) x (omega arith) in absurd (cc)

pub hold-first : (p : ProblemData) (free : Bool) (ii : ℕ) (reasons : List Why) (held : Hold) → mii_of p ≤ ii → AreBefore p ii reasons
    → slice_get reasons (length reasons - 1) ≡ None → IsHold p free (mii_of p) held → IsHold p free ii held
hold-first p free ii reasons held low are none is =
    let many = each-told p (ii - mii_of p) reasons are in
    let empty = none-last reasons none in
    let same : mii_of p ≡ ii = omega arith in
    subst (λ n. IsHold p free n held) same is
