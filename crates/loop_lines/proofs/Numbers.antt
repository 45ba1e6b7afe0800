-- Numbers by their digits, kept within 64 bits.
use Rattle.std.proofs.Common.{◌≡◌, ℕ, ◌+◌, ◌-◌, ◌*◌, ◌^◌, ◌<◌, ◌≤◌, min, true, false, cond, List, [], ◌∷◌, length, get_or, take, drop, Option, Some, None, refl, sym, ◌∙◌, ap, arith, ℤ, pos, ◌+ℤ◌, ◌-ℤ◌, neg_ℤ, FitsSigned, w64, nat_lt, inl, inr}
use Rattle.std.proofs.lemmas.Bool.{cases_lt, lt-ltb, le-ltb}
use Rattle.std.proofs.lemmas.Bool.Decides.{nat_tests}
use Rattle.std.proofs.lemmas.Int.{ints}
use Rattle.std.specs.Char.{digit_value, is_ascii_digit}
use Rattle.std.specs.Option.{SomeIff}
use Rattle.std.specs.Str.{all_ascii_digits}
use Rattle.std.specs.Str.Parse.{digits_value, digits_value_after}
use Rattle.loop_lines.specs.Forms.{is_number, signed_of}
use Rattle.loop_lines.proofs.Cuts.{head_and_rest}

-- two beginnings that are the same up to the greatest number lead to values that are
same_value : (ds : List ℕ) (a b : ℕ) → min a (2 ^ 64 - 1) ≡ min b (2 ^ 64 - 1) → min (digits_value_after 10 a ds) (2 ^ 64 - 1) ≡ min (digits_value_after 10 b ds) (2 ^ 64 - 1)
same_value [] a b e = e
same_value (d ∷ ds) a b e = same_value ds (a * 10 + digit_value d) (b * 10 + digit_value d) (omega arith)

digit_is : (d : ℕ) → is_ascii_digit d ≡ true → digit_value d ≡ d - 48
digit_is d h = grind (arith, nat_tests)

-- one more digit
pub digits_step : (word rest : List ℕ) → 0 < length rest → is_ascii_digit (get_or rest 0 0) ≡ true → all_ascii_digits rest ≡ all_ascii_digits word → all_ascii_digits (take (length rest - 1) (drop 1 rest)) ≡ all_ascii_digits word
digits_step word rest h digit e =
    let parts = ap all_ascii_digits (head_and_rest rest h) in
    let first = rw digit at parts in
    sym first ∙ e

pub value_step : (word rest : List ℕ) (v next : ℕ) → 0 < length rest → is_ascii_digit (get_or rest 0 0) ≡ true → next ≡ min (min (v * 10) (2 ^ 64 - 1) + (get_or rest 0 0 - 48)) (2 ^ 64 - 1) → min (digits_value_after 10 v rest) (2 ^ 64 - 1) ≡ min (digits_value_after 10 0 word) (2 ^ 64 - 1) → min (digits_value_after 10 next (take (length rest - 1) (drop 1 rest))) (2 ^ 64 - 1) ≡ min (digits_value_after 10 0 word) (2 ^ 64 - 1)
value_step word rest v next h digit is e =
    let d = get_or rest 0 0 in
    let tail = take (length rest - 1) (drop 1 rest) in
    let value : digit_value d ≡ d - 48 = digit_is d digit in
    let parts = ap (λ ds. min (digits_value_after 10 v ds) (2 ^ 64 - 1)) (head_and_rest rest h) in
    same_value tail next (v * 10 + digit_value d) (omega arith) ∙ (sym parts ∙ e)

-- after the last digit
pub number_end : (word rest : List ℕ) (v : ℕ) → 0 < length word → length rest < 1 → v < 2 ^ 64 → all_ascii_digits rest ≡ all_ascii_digits word → min (digits_value_after 10 v rest) (2 ^ 64 - 1) ≡ min (digits_value_after 10 0 word) (2 ^ 64 - 1) → Some v ≡ cond (is_number word) (Some (min (digits_value 10 word) (2 ^ 64 - 1))) None
number_end word [] v some short fits all e =
    let there : nat_lt 0 (length word) ≡ true = lt-ltb 0 (length word) some in
    let value : min (digits_value 10 word) (2 ^ 64 - 1) ≡ v = omega arith in
    rw (there, ← all, value) refl
number_end word (d ∷ ds) v some short fits all e = absurd (omega arith)

-- integers

-- a number of 64 bits below 0 or from 0 on, by its digits' value v that is kept as n
pub minus_is : (r : Option ℤ) (v n : ℕ) → n ≡ min v (2 ^ 64 - 1) → SomeIff r (FitsSigned w64 (pos 0 -ℤ pos n)) (pos 0 -ℤ pos n) → r ≡ signed_of true v
minus_is None v n e h = elim (cases_lt 9223372036854775808 v) [
  | inl above ↦ rw (lt-ltb 9223372036854775808 v above) refl
  | inr within ↦ absurd (h (omega (arith, ints)))
]
minus_is (Some x) v n e h =
    let within : v ≤ 9223372036854775808 = omega (arith, ints, h.0) in
    let value : x ≡ neg_ℤ (pos v) = omega (arith, ints, h.1) in
    rw (le-ltb 9223372036854775808 v within, value) refl

pub plus_is : (r : Option ℤ) (v n : ℕ) → n ≡ min v (2 ^ 64 - 1) → SomeIff r (FitsSigned w64 (pos 0 +ℤ pos n)) (pos 0 +ℤ pos n) → r ≡ signed_of false v
plus_is None v n e h = elim (cases_lt 9223372036854775807 v) [
  | inl above ↦ rw (lt-ltb 9223372036854775807 v above) refl
  | inr within ↦ absurd (h (omega (arith, ints)))
]
plus_is (Some x) v n e h =
    let within : v ≤ 9223372036854775807 = omega (arith, ints, h.0) in
    let value : x ≡ pos v = omega (arith, ints, h.1) in
    rw (le-ltb 9223372036854775807 v within, value) refl
