-- Lines of the canonical text have the forms that they were written from.
use Rattle.std.proofs.Common.{◌≡◌, ℕ, ℤ, ◌+◌, ◌≤◌, Bool, true, false, cond, eqb, not, ◌&&◌, List, [], ◌∷◌, ◌++◌, codes, length, take, drop, map, Some, None, refl, sym, ap, ◌∙◌, arith, FitsSigned, w64}
use Rattle.std.specs.List.{AllByRecursion, list_any, position_or_len, before_first, after_first}
use Rattle.std.specs.Option.{option_map}
use Rattle.std.specs.Fmt.{decimal, signed_decimal}
use Rattle.std.proofs.lemmas.Bool.{and_from, or_from, or_parts, or_left, or_right, cond-true, cond-false}
use Rattle.std.proofs.lemmas.List.{take_at, drop_at, append_assoc, length_push}
use Rattle.loop_lines.specs.Forms.{Plain, At, small_of, is_number, use_of, named_use_of, at_of, or_use, ArrayLine, ParamLine, LoopLine, OutLine, Malformed, int_of, ints_of, with_int, formed, form_of}
use Rattle.loop_data.specs.Names.{is_name}
use Rattle.loops.proofs.spelling.Numerals.{int_of-signed_decimal, is_number-decimal, small_of-decimal}
use Rattle.loops.proofs.spelling.Names.{name_bytes, no_name, int_of-name, not_at, other_byte, letter_in_name}

-- all numbers of a line are read
pub ints_of-numbers : (numbers : List ℤ) → AllByRecursion (FitsSigned w64) numbers → ints_of (map signed_decimal numbers) ≡ Some (map Some numbers)
ints_of-numbers [] h = refl
ints_of-numbers (n ∷ ns) h =
    ap (λ o. with_int o (ints_of (map signed_decimal ns))) (int_of-signed_decimal n h.0) ∙ ap (with_int (Some (Some n))) (ints_of-numbers ns h.1)

pub form_of-loop : (name : List ℕ) → is_name name ≡ true → form_of (codes "loop") (name ∷ []) ≡ LoopLine name
unfolding form_of
form_of-loop name h = cond-true (is_name name) (LoopLine name) Malformed h

pub form_of-out : (name : List ℕ) → is_name name ≡ true → form_of (codes "out") (name ∷ []) ≡ OutLine name
unfolding form_of
form_of-out name h = cond-true (is_name name) (OutLine name) Malformed h

pub form_of-array : (name : List ℕ) (cells : List ℤ) → is_name name ≡ true → AllByRecursion (FitsSigned w64) cells
    → form_of (codes "array") (name ∷ codes "=" ∷ map signed_decimal cells) ≡ ArrayLine name (map Some cells)
unfolding form_of
form_of-array name cells h fits =
    cond-true (is_name name && true) (formed (option_map (ArrayLine name) (ints_of (map signed_decimal cells)))) Malformed (and_from (is_name name) true h refl)
    ∙ ap (λ o. formed (option_map (ArrayLine name) o)) (ints_of-numbers cells fits)

pub form_of-param : (name : List ℕ) (value : ℤ) → is_name name ≡ true → FitsSigned w64 value
    → form_of (codes "param") (name ∷ codes "=" ∷ signed_decimal value ∷ []) ≡ ParamLine name (Some value)
unfolding form_of
form_of-param name value h fits =
    cond-true (is_name name && true) (formed (option_map (ParamLine name) (int_of (signed_decimal value)))) Malformed (and_from (is_name name) true h refl)
    ∙ ap (λ o. formed (option_map (ParamLine name) o)) (int_of-signed_decimal value fits)

-- a name, an `@` and a number

position_of : (p : ℕ → Bool) (xs rest : List ℕ) (c : ℕ) → list_any p xs ≡ false → p c ≡ true → position_or_len p (xs ++ c ∷ rest) ≡ length xs
position_of p [] rest c none met = cond-false (not (p c)) (1 + position_or_len p rest) 0 (ap not met)
position_of p (x ∷ xs) rest c none met =
    let parts = or_parts (p x) (list_any p xs) none in
    cond-true (not (p x)) (1 + position_or_len p (xs ++ c ∷ rest)) 0 (ap not parts.0) ∙ omega (arith, position_of p xs rest c parts.1 met)

pub before_first-at : (p : ℕ → Bool) (xs rest : List ℕ) (c : ℕ) → list_any p xs ≡ false → p c ≡ true → before_first p (xs ++ c ∷ rest) ≡ xs
before_first-at p xs rest c none met = ap (λ n. take n (xs ++ c ∷ rest)) (position_of p xs rest c none met) ∙ take_at xs (c ∷ rest) (length xs) refl

pub after_first-at : (p : ℕ → Bool) (xs rest : List ℕ) (c : ℕ) → list_any p xs ≡ false → p c ≡ true → after_first p (xs ++ c ∷ rest) ≡ rest
after_first-at p xs rest c none met =
    ap (λ n. drop (n + 1) (xs ++ c ∷ rest)) (position_of p xs rest c none met)
    ∙ ap (drop (length xs + 1)) (sym (append_assoc xs (c ∷ []) rest)) ∙ drop_at (xs ++ c ∷ []) rest (length xs + 1) (length_push xs c)

pub list_any-at : (p : ℕ → Bool) (xs rest : List ℕ) (c : ℕ) → p c ≡ true → list_any p (xs ++ c ∷ rest) ≡ true
list_any-at p [] rest c met = or_left (p c) (list_any p rest) met
list_any-at p (x ∷ xs) rest c met = or_right (p x) (list_any p (xs ++ c ∷ rest)) (list_any-at p xs rest c met)

-- the byte `@` is in no name
pub name_not_at : (name : List ℕ) → is_name name ≡ true → list_any (λ c. eqb c 64) name ≡ false
name_not_at [] h = refl
name_not_at (c ∷ cs) h =
    let bytes = name_bytes c cs h in
    or_from (eqb c 64) (list_any (λ d. eqb d 64) cs) (other_byte c 64 (letter_in_name c bytes.0) refl) (not_at cs bytes.1)

int_of-named : (name rest : List ℕ) → is_name name ≡ true → int_of (name ++ rest) ≡ None
int_of-named [] rest h = absurd (no_name h)
int_of-named (c ∷ cs) rest h = int_of-name c (cs ++ rest) (name_bytes c cs h).0

at_of-decimal : (name : List ℕ) (n : ℕ) → is_name name ≡ true → n ≤ 16 → at_of name (decimal n) ≡ Some (At name (Some n))
at_of-decimal name n h few =
    cond-true (is_name name && is_number (decimal n)) (Some (At name (small_of (decimal n)))) None (and_from (is_name name) (is_number (decimal n)) h (is_number-decimal n (omega arith)))
    ∙ ap (λ o. Some (At name o)) (small_of-decimal n few)

-- a use at a distance
pub use_of-distance : (name : List ℕ) (n : ℕ) → is_name name ≡ true → n ≤ 16 → use_of (name ++ 64 ∷ decimal n) ≡ Some (At name (Some n))
unfolding use_of
use_of-distance name n h few =
    let word : List ℕ = name ++ 64 ∷ decimal n in
    let at : ℕ → Bool = λ c. eqb c 64 in
    ap (λ o. or_use o (named_use_of word)) (int_of-named name (64 ∷ decimal n) h)
    ∙ cond-true (list_any at word) (at_of (before_first at word) (after_first at word)) (cond (is_name word) (Some (Plain word)) None) (list_any-at at name (decimal n) 64 refl)
    ∙ ap (λ w. at_of w (after_first at word)) (before_first-at at name (decimal n) 64 (name_not_at name h) refl)
    ∙ ap (at_of name) (after_first-at at name (decimal n) 64 (name_not_at name h) refl)
    ∙ at_of-decimal name n h few
