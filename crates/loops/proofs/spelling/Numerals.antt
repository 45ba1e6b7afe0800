-- Numbers of the canonical text are read as what they were written from.
use Rattle.std.proofs.Common.{◌≡◌, ℕ, suc, ℤ, pos, negsuc, neg_ℤ, ◌<◌, ◌≤◌, ◌^◌, Bool, true, false, cond, eqb, ltb, List, [], ◌∷◌, length, Option, Some, None, sym, ap, ◌∙◌, arith, rules, FitsSigned, w64}
use Rattle.std.specs.Fmt.{decimal, signed_decimal}
use Rattle.std.specs.Str.{all_ascii_digits}
use Rattle.std.specs.Char.{is_ascii_digit}
use Rattle.std.specs.Str.Parse.{digits_value}
use Rattle.std.proofs.lemmas.Bool.{and_parts, and_from, ne_eqb, lt-ltb, le-ltb, cond-true, cond-false, true≢false}
use Rattle.std.proofs.lemmas.Fmt.{digits_decimal, digits_value-decimal, decimal_nonempty}
use Rattle.std.proofs.lemmas.Str.Parse.{IsNumeralModel, numerals_by_value}
use Rattle.loop_lines.specs.Forms.{is_number, int_of, signed_of, small_of, offset_of}

own : IsNumeralModel (λ ds. all_ascii_digits ds ≡ true) (digits_value 10)
own = numerals_by_value (λ ds. all_ascii_digits ds ≡ true) (search rules)

pub is_number-decimal : (n : ℕ) → n < 2 ^ 64 → is_number (decimal n) ≡ true
is_number-decimal n h = and_from (ltb 0 (length (decimal n))) (all_ascii_digits (decimal n)) (lt-ltb 0 (length (decimal n)) (decimal_nonempty n h)) (digits_decimal own n h)

-- a number up to 16
pub small_of-decimal : (n : ℕ) → n ≤ 16 → small_of (decimal n) ≡ Some n
small_of-decimal n h =
    let value : digits_value 10 (decimal n) ≡ n = digits_value-decimal own n (omega arith) in
    ap (λ v. cond (ltb 16 v) None (Some v)) value ∙ cond-false (ltb 16 n) None (Some n) (le-ltb 16 n h)

-- digits do not begin with a minus sign
int_of-digits : (ds : List ℕ) → is_number ds ≡ true → int_of ds ≡ Some (signed_of false (digits_value 10 ds))
unfolding int_of
int_of-digits [] h = absurd (true≢false (sym h))
int_of-digits (c ∷ cs) h =
    let parts = and_parts (ltb 0 (length (c ∷ cs))) (all_ascii_digits (c ∷ cs)) h in
    let first = and_parts (is_ascii_digit c) (all_ascii_digits cs) parts.1 in
    let digit : eqb c 45 ≡ false = ne_eqb c 45 (λ e. true≢false (sym first.0 ∙ ap is_ascii_digit e)) in
    let positive : Option (Option ℤ) = cond (is_number (c ∷ cs)) (Some (signed_of false (digits_value 10 (c ∷ cs)))) None in
    let negative : Option (Option ℤ) = cond (is_number cs) (Some (signed_of true (digits_value 10 cs))) None in
    cond-false (eqb c 45) negative positive digit ∙ cond-true (is_number (c ∷ cs)) (Some (signed_of false (digits_value 10 (c ∷ cs)))) None h

int_of-minus : (ds : List ℕ) → is_number ds ≡ true → int_of (45 ∷ ds) ≡ Some (signed_of true (digits_value 10 ds))
unfolding int_of
int_of-minus ds h = cond-true (is_number ds) (Some (signed_of true (digits_value 10 ds))) None h

-- a signed number of 64 bits
pub int_of-signed_decimal : (v : ℤ) → FitsSigned w64 v → int_of (signed_decimal v) ≡ Some (Some v)
int_of-signed_decimal (pos n) fits =
    let small : n < 9223372036854775808 = fits.sfits in
    let value : digits_value 10 (decimal n) ≡ n = digits_value-decimal own n (omega arith) in
    int_of-digits (decimal n) (is_number-decimal n (omega arith)) ∙ ap (λ m. Some (signed_of false m)) value
    ∙ ap Some (cond-false (ltb 9223372036854775807 n) None (Some (pos n)) (le-ltb 9223372036854775807 n (omega arith)))
int_of-signed_decimal (negsuc n) fits =
    let small : n < 9223372036854775808 = fits.sfits in
    let value : digits_value 10 (decimal (suc n)) ≡ suc n = digits_value-decimal own (suc n) (omega arith) in
    int_of-minus (decimal (suc n)) (is_number-decimal (suc n) (omega arith)) ∙ ap (λ m. Some (signed_of true m)) value
    ∙ ap Some (cond-false (ltb 9223372036854775808 (suc n)) None (Some (negsuc n)) (le-ltb 9223372036854775808 (suc n) (omega arith)))

-- a subscript's constant
pub offset_of-decimal : (negative : Bool) (n : ℕ) → n ≤ 64 → offset_of negative (decimal n) ≡ Some (Some (cond negative (neg_ℤ (pos n)) (pos n)))
offset_of-decimal negative n h =
    let value : digits_value 10 (decimal n) ≡ n = digits_value-decimal own n (omega arith) in
    cond-true (is_number (decimal n)) (Some (cond (ltb 64 (digits_value 10 (decimal n))) None (Some (cond negative (neg_ℤ (pos (digits_value 10 (decimal n)))) (pos (digits_value 10 (decimal n))))))) None (is_number-decimal n (omega arith))
    ∙ ap (λ m. Some (cond (ltb 64 m) None (Some (cond negative (neg_ℤ (pos m)) (pos m))))) value
    ∙ ap Some (cond-false (ltb 64 n) None (Some (cond negative (neg_ℤ (pos n)) (pos n))) (le-ltb 64 n h))
