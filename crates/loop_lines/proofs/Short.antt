-- Integers of a few digits, which are read without a word of their own.
use Rattle.std.proofs.Common.{◌≡◌, ◌==◌, ◌^◌, ◌*◌, ℕ, suc, pos, neg_ℤ, ◌+◌, ◌-◌, ◌<◌, ◌≤◌, nat_lt, Bool, true, false, cond, List, [], ◌∷◌, length, get_or, take, drop, Some, refl, sym, ◌∙◌, ap, arith}
use Rattle.std.specs.Char.{digit_value, is_ascii_digit}
use Rattle.std.specs.Str.{all_ascii_digits}
use Rattle.std.specs.Str.Parse.{digits_value}
use Rattle.std.specs.List.{position_or_len}
use Rattle.std.proofs.lemmas.Bool.{and_parts, le-ltb}
use Rattle.std.proofs.lemmas.Bool.Decides.{nat_tests}
use Rattle.std.proofs.lemmas.Int.Digits.{digits_value_more}
use Rattle.std.proofs.lemmas.List.{drop_more, get_or-take}
use Rattle.std.proofs.lemmas.List.Sums.{position_or_len_is}
use Rattle.std.proofs.lemmas.Str.Parse.{digit_at, digits_value-take-le, digits_value_short, numerals_by_value, tells_all_ascii_digits}
use Rattle.loop_lines.specs.Forms.{int_of, is_number}
use Rattle.loop_lines.specs.Words.{stops_word, words_of}
use Rattle.loop_lines.specs.inner.Stops.{begins_stop}
use Rattle.loop_lines.proofs.Cuts.{word_taken, words_of-blank}

-- a space in front is passed over
pub space_passed : (rest more : List ℕ) → rest ≡ 32 ∷ more → words_of more ≡ words_of rest
space_passed rest more is = sym (ap words_of is ∙ words_of-blank 32 more refl)

-- words

no_stop : (d : ℕ) → is_ascii_digit d ≡ true → stops_word d ≡ false
no_stop d h = grind (arith, nat_tests)

stop_at : (text : List ℕ) (n : ℕ) → begins_stop (drop n text) ≡ true → n < length text → stops_word (get_or text n 0) ≡ true
stop_at text n stop lt = sym (ap begins_stop (drop_more text n 0 lt)) ∙ stop

stops_after : (text : List ℕ) (n : ℕ) → n ≤ length text → ((k : ℕ) → k < n → is_ascii_digit (get_or text k 0) ≡ true) → begins_stop (drop n text) ≡ true → position_or_len stops_word text ≡ n
stops_after text n within all stop = position_or_len_is stops_word text n 0 within (λ k lt. no_stop (get_or text k 0) (all k lt)) (stop_at text n stop)

one_further : (text : List ℕ) → position_or_len stops_word (45 ∷ text) ≡ 1 + position_or_len stops_word text
one_further text = refl

-- digits up to a stop are a word, and so are they after a sign
short_word : (negative : Bool) (text : List ℕ) (n : ℕ) → 0 < n → position_or_len stops_word text ≡ n
    → words_of (cond negative (45 ∷ text) text) ≡ cond negative (45 ∷ take n text) (take n text) ∷ words_of (drop n text)
short_word true text n some e = word_taken (45 ∷ text) (45 ∷ text) (45 ∷ take n text) (drop n text) (suc n) refl (omega arith) (omega (arith, one_further text, e)) refl refl
short_word false text n some e = word_taken text text (take n text) (drop n text) n refl some (sym e) refl refl

pub short_taken : (rest word text digits after : List ℕ) (negative : Bool) (n : ℕ) → words_of word ≡ words_of rest → word ≡ cond negative (45 ∷ text) text
    → 0 < n → n ≤ length text → ((k : ℕ) → k < n → is_ascii_digit (get_or text k 0) ≡ true) → digits ≡ take n text → after ≡ drop n text → begins_stop after ≡ true
    → words_of rest ≡ cond negative (45 ∷ digits) digits ∷ words_of after
short_taken rest word text digits after negative n same is some within all d a stop =
    let ends : position_or_len stops_word text ≡ n = stops_after text n within all (sym (ap begins_stop a) ∙ stop) in
    sym same ∙ ap words_of is ∙ short_word negative text n some ends ∙ rw (d, a) refl

-- numbers

all_front : (xs : List ℕ) → ((k : ℕ) → k < length xs → is_ascii_digit (get_or xs k 0) ≡ true) → all_ascii_digits xs ≡ true
all_front [] h = refl
all_front (c ∷ cs) h = rw (h 0 (omega arith), all_front cs (λ k lt. h (suc k) (omega arith))) refl

pub number_taken : (text digits : List ℕ) (n : ℕ) → 0 < n → n ≤ length text → length digits ≡ n → ((k : ℕ) → k < n → is_ascii_digit (get_or text k 0) ≡ true) → digits ≡ take n text → is_number digits ≡ true
number_taken text digits n some within long all d =
    let one = λ (k : ℕ) (lt : k < length digits). ap (λ xs. is_ascii_digit (get_or xs k 0)) d ∙ ap is_ascii_digit (get_or-take n text k 0 (omega arith)) ∙ all k (omega arith) in
    let there : nat_lt 0 (length digits) ≡ true = grind (arith, nat_tests) in
    rw (there, all_front digits one) refl

pub digits_are : (digits : List ℕ) → is_number digits ≡ true → all_ascii_digits digits ≡ true
digits_are digits h = (and_parts (nat_lt 0 (length digits)) (all_ascii_digits digits) h).1

digit_is : (d : ℕ) → 48 ≤ d → d ≤ 57 → digit_value d ≡ d - 48
digit_is d low high = grind (arith, nat_tests)

-- one more digit of a few
pub short_step : (ds : List ℕ) (i : ℕ) → all_ascii_digits ds ≡ true → length ds ≤ 16 → i < length ds
    → (48 ≤ get_or ds i 0) × (get_or ds i 0 ≤ 57) × (digits_value 10 (take (i + 1) ds) ≡ digits_value 10 (take i ds) * 10 + (get_or ds i 0 - 48)) × (digits_value 10 (take (i + 1) ds) < 10 ^ 16)
short_step ds i all few lt =
    let own = numerals_by_value (λ xs. all_ascii_digits xs ≡ true) tells_all_ascii_digits in
    let digit = digit_at ds i (own.to ds all) lt in
    let value : digit_value (get_or ds i 0) ≡ get_or ds i 0 - 48 = digit_is (get_or ds i 0) digit.0 digit.1 in
    let more = digits_value_more 10 ds i lt in
    (digit.0, digit.1, more ∙ ap (λ v. digits_value 10 (take i ds) * 10 + v) value, omega (arith, digits_value-take-le 10 ds (i + 1) (omega arith), digits_value_short own ds 16 all few))

pub short_most : (ds : List ℕ) → all_ascii_digits ds ≡ true → length ds ≤ 16 → digits_value 10 ds < 10 ^ 16
short_most ds all few = digits_value_short (numerals_by_value (λ xs. all_ascii_digits xs ≡ true) tells_all_ascii_digits) ds 16 all few

first_digit : (c : ℕ) (cs : List ℕ) → is_number (c ∷ cs) ≡ true → (c == 45) ≡ false
first_digit c cs h =
    let digit : is_ascii_digit c ≡ true = (and_parts (is_ascii_digit c) (all_ascii_digits cs) (digits_are (c ∷ cs) h)).0 in
    grind (arith, nat_tests)

pub minus_value : (digits : List ℕ) → is_number digits ≡ true → length digits ≤ 16 → int_of (45 ∷ digits) ≡ Some (Some (neg_ℤ (pos (digits_value 10 digits))))
unfolding int_of
minus_value digits number few =
    let within = short_most digits (digits_are digits number) few in
    rw (number, le-ltb 9223372036854775808 (digits_value 10 digits) (omega (arith, within))) refl

pub plus_value : (digits : List ℕ) → is_number digits ≡ true → length digits ≤ 16 → int_of digits ≡ Some (Some (pos (digits_value 10 digits)))
unfolding int_of
plus_value [] number few = cc
plus_value (c ∷ cs) number few =
    let within = short_most (c ∷ cs) (digits_are (c ∷ cs) number) few in
    rw (first_digit c cs number, number, le-ltb 9223372036854775807 (digits_value 10 (c ∷ cs)) (omega (arith, within))) refl
