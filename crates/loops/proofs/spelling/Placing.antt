-- Places of the canonical text are read as what they were written from.
use Rattle.std.proofs.Common.{◌≡◌, ℕ, zero, suc, ℤ, pos, negsuc, neg_ℤ, ◌+◌, ◌-◌, ◌≤ℤ◌, Bool, true, false, cond, eqb, ltb, ◌&&◌, List, [], ◌∷◌, ◌++◌, length, get_or, take, Option, Some, None, refl, ap, ◌∙◌, arith}
use Rattle.std.specs.List.{list_any, after_first}
use Rattle.std.specs.Option.{option_map}
use Rattle.std.proofs.lemmas.Bool.{and_from, or_from, cond-true, lt-ltb, eq-eqb}
use Rattle.std.proofs.lemmas.Int.{ints}
use Rattle.std.proofs.lemmas.List.{take_at, get_or_at, length_push}
use Rattle.loop_lines.specs.Forms.{Subscript, subscript_of, place_of}
use Rattle.loop_data.specs.Names.{is_name}
use Rattle.loops.specs.Text.{offset_text}
use Rattle.loops.proofs.spelling.Numerals.{offset_of-decimal}
use Rattle.loops.proofs.spelling.Names.{name_bytes, not_byte, other_byte, letter_in_name}
use Rattle.loops.proofs.spelling.Forming.{before_first-at, after_first-at}

pub subscript_of-text : (offset : ℤ) → neg_ℤ (pos 64) ≤ℤ offset → offset ≤ℤ pos 64 → subscript_of (105 ∷ offset_text offset) ≡ Some (Some offset)
unfolding subscript_of
subscript_of-text (pos zero) low high = refl
subscript_of-text (pos (suc n)) low high = offset_of-decimal false (suc n) (omega (arith, ints))
subscript_of-text (negsuc n) low high = offset_of-decimal true (suc n) (omega (arith, ints))

name_not_bracket : (name : List ℕ) → is_name name ≡ true → list_any (λ c. eqb c 91) name ≡ false
name_not_bracket [] h = refl
name_not_bracket (c ∷ cs) h =
    let bytes = name_bytes c cs h in
    or_from (eqb c 91) (list_any (λ d. eqb d 91) cs) (other_byte c 91 (letter_in_name c bytes.0) refl) (not_byte 91 refl cs bytes.1)

-- a place by its parts
pub place_of-parts : (name inner : List ℕ) (offset : ℤ) → is_name name ≡ true → subscript_of inner ≡ Some (Some offset)
    → place_of (name ++ 91 ∷ (inner ++ 93 ∷ [])) ≡ Some (record { array = name; offset = Some offset })
unfolding place_of
place_of-parts name inner offset h sub =
    let word : List ℕ = name ++ 91 ∷ (inner ++ 93 ∷ []) in
    let open_bracket : ℕ → Bool = λ c. eqb c 91 in
    let found : List ℕ → List ℕ → Option Subscript = λ n r.
    cond ((is_name n && ltb 0 (length r)) && eqb (get_or r (length r - 1) 0) 93) (option_map (λ o. record { array = n; offset = o }) (subscript_of (take (length r - 1) r))) None in
    let rest : List ℕ = inner ++ 93 ∷ [] in
    let long : length rest ≡ length inner + 1 = length_push inner 93 in
    let last : length inner ≡ length rest - 1 = omega arith in
    let tests = and_from (is_name name && ltb 0 (length rest)) (eqb (get_or rest (length rest - 1) 0) 93)
    (and_from (is_name name) (ltb 0 (length rest)) h (lt-ltb 0 (length rest) (omega arith)))
    (eq-eqb (get_or rest (length rest - 1) 0) 93 (get_or_at inner 93 [] 0 (length rest - 1) last)) in
    ap (λ n. found n (after_first open_bracket word)) (before_first-at open_bracket name rest 91 (name_not_bracket name h) refl)
    ∙ ap (found name) (after_first-at open_bracket name rest 91 (name_not_bracket name h) refl)
    ∙ cond-true ((is_name name && ltb 0 (length rest)) && eqb (get_or rest (length rest - 1) 0) 93) (option_map (λ o. record { array = name; offset = o }) (subscript_of (take (length rest - 1) rest))) None tests
    ∙ ap (λ w. option_map (λ o. record { array = name; offset = o }) (subscript_of w)) (take_at inner (93 ∷ []) (length rest - 1) last)
    ∙ ap (λ s. option_map (λ o. record { array = name; offset = o }) s) sub
