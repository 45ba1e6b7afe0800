-- Names of the canonical text are read as names.
use Rattle.std.proofs.Common.{◌≡◌, ℕ, Bool, true, false, cond, eqb, not, ◌||◌, List, [], ◌∷◌, Some, None, refl, sym, ap, ◌∙◌, arith}
use Rattle.std.specs.List.{list_all, list_any}
use Rattle.std.specs.Str.{all_ascii_digits}
use Rattle.std.specs.Char.{is_ascii_digit}
use Rattle.std.specs.Str.Parse.{digits_value}
use Rattle.std.proofs.lemmas.Bool.{and_parts, and_from, and_left, and_right, or_from, or_left, ne_eqb, cond-true, cond-false, true≢false}
use Rattle.std.proofs.lemmas.Bool.Decides.{nat_tests}
use Rattle.loop_lines.specs.Forms.{Plain, is_number, int_of, signed_of, use_of, named_use_of, or_use}
use Rattle.loop_data.specs.Names.{is_letter, is_name_byte, starts_name, is_reserved, is_name}
use Rattle.loop_lines.specs.Words.{is_blank}
use Rattle.loops.proofs.spelling.Splitting.{is_plain_byte, is_plain}

-- no byte of a name is one of these
pub other_byte : (c d : ℕ) → is_name_byte c ≡ true → is_name_byte d ≡ false → eqb c d ≡ false
other_byte c d h k = ne_eqb c d (λ e. true≢false (sym h ∙ ap is_name_byte e ∙ k))

plain_name_byte : (c : ℕ) → is_name_byte c ≡ true → is_plain_byte c ≡ true
plain_name_byte c h =
    ap not (or_from (is_blank c) (eqb c 10 || eqb c 35)
    (or_from (eqb c 32 || eqb c 9) (eqb c 13) (or_from (eqb c 32) (eqb c 9) (other_byte c 32 h refl) (other_byte c 9 h refl)) (other_byte c 13 h refl))
    (or_from (eqb c 10) (eqb c 35) (other_byte c 10 h refl) (other_byte c 35 h refl)))

list_all-weaker : (p q : ℕ → Bool) → ((c : ℕ) → p c ≡ true → q c ≡ true) → (xs : List ℕ) → list_all p xs ≡ true → list_all q xs ≡ true
list_all-weaker p q w [] h = refl
list_all-weaker p q w (x ∷ xs) h =
    let parts = and_parts (p x) (list_all p xs) h in
    and_from (q x) (list_all q xs) (w x parts.0) (list_all-weaker p q w xs parts.1)

-- a name's first byte is a letter and the others are bytes of names
pub name_bytes : (c : ℕ) (cs : List ℕ) → is_name (c ∷ cs) ≡ true → (is_letter c ≡ true) × (list_all is_name_byte cs ≡ true)
unfolding is_name
name_bytes c cs h = and_parts (is_letter c) (list_all is_name_byte cs) (and_parts (starts_name (c ∷ cs)) (not (is_reserved (c ∷ cs))) h).0

pub no_name : is_name [] ≡ true → ⊥
unfolding is_name
no_name h = true≢false (sym h)

pub letter_in_name : (c : ℕ) → is_letter c ≡ true → is_name_byte c ≡ true
letter_in_name c h = or_left (is_letter c) _ h

pub is_plain-name : (name : List ℕ) → is_name name ≡ true → is_plain name ≡ true
is_plain-name [] h = absurd (no_name h)
is_plain-name (c ∷ cs) h =
    let bytes = name_bytes c cs h in
    and_from (is_plain_byte c) (list_all is_plain_byte cs) (plain_name_byte c (letter_in_name c bytes.0)) (list_all-weaker is_name_byte is_plain_byte plain_name_byte cs bytes.1)

-- no letter is a digit or a minus sign
letter_no_digit : (c : ℕ) → is_letter c ≡ true → is_ascii_digit c ≡ false
letter_no_digit c h = grind (arith, nat_tests)

pub not_at : (cs : List ℕ) → list_all is_name_byte cs ≡ true → list_any (λ c. eqb c 64) cs ≡ false
not_at [] h = refl
not_at (c ∷ cs) h =
    let parts = and_parts (is_name_byte c) (list_all is_name_byte cs) h in
    or_from (eqb c 64) (list_any (λ c. eqb c 64) cs) (other_byte c 64 parts.0 refl) (not_at cs parts.1)

pub int_of-name : (c : ℕ) (cs : List ℕ) → is_letter c ≡ true → int_of (c ∷ cs) ≡ None
unfolding int_of
int_of-name c cs h =
    let minus : eqb c 45 ≡ false = other_byte c 45 (letter_in_name c h) refl in
    let number : is_number (c ∷ cs) ≡ false = and_right _ (all_ascii_digits (c ∷ cs)) (and_left (is_ascii_digit c) (all_ascii_digits cs) (letter_no_digit c h)) in
    cond-false (eqb c 45) (cond (is_number cs) (Some (signed_of true (digits_value 10 cs))) None) (cond (is_number (c ∷ cs)) (Some (signed_of false (digits_value 10 (c ∷ cs)))) None) minus
    ∙ cond-false (is_number (c ∷ cs)) (Some (signed_of false (digits_value 10 (c ∷ cs)))) None number

-- a name alone is a plain use
pub use_of-name : (name : List ℕ) → is_name name ≡ true → use_of name ≡ Some (Plain name)
unfolding use_of
use_of-name [] h = absurd (no_name h)
use_of-name (c ∷ cs) h =
    let bytes = name_bytes c cs h in
    let none = or_from (eqb c 64) (list_any (λ c. eqb c 64) cs) (other_byte c 64 (letter_in_name c bytes.0) refl) (not_at cs bytes.1) in
    ap (λ o. or_use o (named_use_of (c ∷ cs))) (int_of-name c cs bytes.0)
    ∙ cond-false (list_any (λ d. eqb d 64) (c ∷ cs)) _ _ none ∙ cond-true (is_name (c ∷ cs)) (Some (Plain (c ∷ cs))) None h

-- nor is any other byte that stands in no name
pub not_byte : (d : ℕ) → is_name_byte d ≡ false → (cs : List ℕ) → list_all is_name_byte cs ≡ true → list_any (λ c. eqb c d) cs ≡ false
not_byte d k [] h = refl
not_byte d k (c ∷ cs) h =
    let parts = and_parts (is_name_byte c) (list_all is_name_byte cs) h in
    or_from (eqb c d) (list_any (λ c. eqb c d) cs) (other_byte c d parts.0 k) (not_byte d k cs parts.1)
