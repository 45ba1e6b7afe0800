-- Texts: digits, and words among others.
use Rattle.std.proofs.Common.{◌≡◌, ℕ, ◌<◌, ◌≤◌, Bool, true, ◌&&◌, ◌||◌, List, [], ◌∷◌, length, map, Result, Ok, refl, ap, arith}
use Rattle.std.specs.Char.{is_ascii_digit}
use Rattle.std.specs.List.{list_any, list_all}
use Rattle.std.specs.Str.{all_ascii_digits}
use Rattle.std.specs.Str.Parse.{digits_value, ParsesUnsigned}
use Rattle.std.proofs.lemmas.Str.Parse.{IsNumeralModel, numerals_by_value, tells_all_ascii_digits, parse_gives}

pub all_digits : (text : List ℕ) → list_all is_ascii_digit text ≡ all_ascii_digits text
all_digits [] = refl
all_digits (c ∷ cs) = ap (λ b. is_ascii_digit c && b) (all_digits cs)

pub list_any-map : {A B : Type 0} (p : B → Bool) (f : A → B) (xs : List A) → list_any p (map f xs) ≡ list_any (λ x. p (f x)) xs
list_any-map p f [] = refl
list_any-map p f (x ∷ xs) = ap (λ b. p (f x) || b) (list_any-map p f xs)

decimal : IsNumeralModel (λ ds. all_ascii_digits ds ≡ true) (digits_value 10)
decimal = numerals_by_value (λ ds. all_ascii_digits ds ≡ true) tells_all_ascii_digits

-- digits of a small number are parsed
pub parses_small : {E : Type 0} (digits : List ℕ) (r : Result ℕ E) → ParsesUnsigned 8 10 digits r → all_ascii_digits digits ≡ true → 0 < length digits → digits_value 10 digits ≤ 63 → r ≡ Ok (digits_value 10 digits)
parses_small digits r h all some small = parse_gives decimal 8 digits r h all some (omega arith)
