-- Words by what they are.
use Rattle.std.proofs.Common.{◌≡◌, ◌==◌, ℕ, ℤ, ◌+◌, ◌-◌, ◌<◌, ◌||◌, ◌&&◌, Bool, true, false, cond, List, [], ◌∷◌, take, Option, Some, None, option_map, refl, sym, ◌∙◌, ap, arith, get_or, length, is_some, ltb, length-drop}
use Rattle.std.proofs.lemmas.Bool.{true≢false}
use Rattle.std.specs.List.{after_first, before_first, list_all, list_any, position_or_len}
use Rattle.loop_data.specs.Names.{is_letter, is_name, is_name_byte, starts_name}
use Rattle.loop_lines.specs.Forms.{Use, or_use, place_of, subscript_of}

pub some_use : (a : Option (Option ℤ)) (b : Option Use) → is_some (or_use a b) ≡ (is_some a || is_some b)
some_use None b = refl
some_use (Some value) b = refl

-- names by their first byte

pub letter_first : (word : List ℕ) → 0 < length word → is_letter (get_or word 0 0) ≡ true → starts_name word ≡ list_all is_name_byte word
letter_first [] h e = absurd (omega arith)
letter_first (c ∷ cs) h e = rw e refl

pub no_letter : (word : List ℕ) → 0 < length word → is_letter (get_or word 0 0) ≡ false → starts_name word ≡ false
no_letter [] h e = absurd (omega arith)
no_letter (c ∷ cs) h e = rw e refl

-- places

bare-at : (p : ℕ → Bool) (c : ℕ) (cs : List ℕ) (b : Bool) → p c ≡ b → (list_any p cs ≡ false → position_or_len p cs ≡ length cs) → list_any p (c ∷ cs) ≡ false → position_or_len p (c ∷ cs) ≡ length (c ∷ cs)
bare-at p c cs true e ih h = absurd (true≢false (rw e at h))
bare-at p c cs false e ih h =
    let one : position_or_len p (c ∷ cs) ≡ 1 + position_or_len p cs = rw e refl in
    let rest = ih (rw e at h) in
    omega (arith, one, rest)

bare-position : (p : ℕ → Bool) (word : List ℕ) → list_any p word ≡ false → position_or_len p word ≡ length word
bare-position p [] h = refl
bare-position p (c ∷ cs) h = bare-at p c cs (p c) refl (bare-position p cs) h

abbrev name_of : List ℕ → List ℕ
name_of word = before_first (λ c. c == 91) word

abbrev rest_of : List ℕ → List ℕ
rest_of word = after_first (λ c. c == 91) word

abbrev closes : List ℕ → Bool
closes rest = ltb 0 (length rest) && (get_or rest (length rest - 1) 0 == 93)

and-assoc : (a b c : Bool) → ((a && b) && c) ≡ (a && (b && c))
and-assoc true b c = refl
and-assoc false b c = refl

some-if : {A B : Type 0} (f : A → B) (b : Bool) (o : Option A) → is_some (cond b (option_map f o) None) ≡ (b && is_some o)
some-if f true None = refl
some-if f true (Some x) = refl
some-if f false o = refl

place-some : (word : List ℕ) → is_some (place_of word) ≡ ((is_name (name_of word) && closes (rest_of word)) && is_some (subscript_of (take (length (rest_of word) - 1) (rest_of word))))
unfolding place_of
place-some word =
    some-if _ ((is_name (name_of word) && ltb 0 (length (rest_of word))) && (get_or (rest_of word) (length (rest_of word) - 1) 0 == 93)) (subscript_of (take (length (rest_of word) - 1) (rest_of word)))
    ∙ ap (λ b. b && is_some (subscript_of (take (length (rest_of word) - 1) (rest_of word)))) (and-assoc (is_name (name_of word)) (ltb 0 (length (rest_of word))) (get_or (rest_of word) (length (rest_of word) - 1) 0 == 93))

and-no : (b : Bool) → (b && false) ≡ false
and-no true = refl
and-no false = refl

pub place_open : (word rest : List ℕ) → rest ≡ rest_of word → closes rest ≡ false → is_some (place_of word) ≡ false
place_open word rest r h =
    let no : closes (rest_of word) ≡ false = ap closes (sym r) ∙ h in
    place-some word ∙ ap (λ b. (is_name (name_of word) && b) && is_some (subscript_of (take (length (rest_of word) - 1) (rest_of word)))) no
    ∙ ap (λ b. b && is_some (subscript_of (take (length (rest_of word) - 1) (rest_of word)))) (and-no (is_name (name_of word)))

pub place_bare : (word : List ℕ) → list_any (λ c. c == 91) word ≡ false → is_some (place_of word) ≡ false
place_bare word h =
    let none : length (rest_of word) ≡ 0 = omega (arith, bare-position (λ c. c == 91) word h, length-drop (position_or_len (λ c. c == 91) word + 1) word) in
    place_open word (rest_of word) refl (ap (λ n. ltb 0 n && (get_or (rest_of word) (n - 1) 0 == 93)) none)

pub place_else : (word name : List ℕ) → name ≡ name_of word → is_name name ≡ false → is_some (place_of word) ≡ false
place_else word name n h =
    place-some word ∙ ap (λ b. (b && closes (rest_of word)) && is_some (subscript_of (take (length (rest_of word) - 1) (rest_of word)))) (ap is_name (sym n) ∙ h)

pub place_then : (word name rest inner : List ℕ) → name ≡ name_of word → rest ≡ rest_of word → is_name name ≡ true → closes rest ≡ true → inner ≡ take (length rest - 1) rest
    → is_some (place_of word) ≡ is_some (subscript_of inner)
place_then word name rest inner n r h k i =
    place-some word
    ∙ ap (λ b. (b && closes (rest_of word)) && is_some (subscript_of (take (length (rest_of word) - 1) (rest_of word)))) (ap is_name (sym n) ∙ h)
    ∙ ap (λ b. b && is_some (subscript_of (take (length (rest_of word) - 1) (rest_of word)))) (ap closes (sym r) ∙ k)
    ∙ ap (λ xs. is_some (subscript_of (take (length xs - 1) xs))) (sym r) ∙ ap (λ xs. is_some (subscript_of xs)) (sym i)
