-- The canonical text is cut into its lines, and each line into its words.
use Rattle.std.proofs.Common.{◌≡◌, ℕ, ◌+◌, length, arith, Bool, true, false, cond, eqb, ◌==◌, not, ◌&&◌, ◌||◌, List, [], ◌∷◌, ◌++◌, map, refl, ap, ◌∙◌}
use Rattle.std.specs.List.{before_first, position_or_len, flat_map, list_all, AllByRecursion}
use Rattle.std.proofs.lemmas.Bool.{and_parts, and_from, or_from, not-true, or_parts, cond-false, cond-true}
use Rattle.std.proofs.lemmas.List.{append_assoc, take_all}
use Rattle.loops.specs.Text.{following, line_text}
use Rattle.loop_lines.specs.Words.{lines_of, onto_first, is_blank, ends_word, pieces_of, words_of}

-- bytes that stand in words

-- a byte that neither parts words nor lines nor begins a comment
abbrev pub is_plain_byte : ℕ → Bool
is_plain_byte c = not (is_blank c || ((c == 10) || (c == 35)))

-- a word of such bytes, at least one
abbrev pub is_plain : List ℕ → Bool
is_plain [] = false
is_plain (c ∷ cs) = is_plain_byte c && list_all is_plain_byte cs

plain_byte_parts : (c : ℕ) → is_plain_byte c ≡ true → (is_blank c ≡ false) × (eqb c 10 ≡ false) × (eqb c 35 ≡ false)
plain_byte_parts c h =
    let parts = or_parts (is_blank c) (eqb c 10 || eqb c 35) (not-true (is_blank c || (eqb c 10 || eqb c 35)) h) in
    let others = or_parts (eqb c 10) (eqb c 35) parts.1 in
    (parts.0, others.0, others.1)

-- words

-- a word in front of what ends it
pieces_of-word : (c : ℕ) (cs rest : List ℕ) → is_plain_byte c ≡ true → list_all is_plain_byte cs ≡ true → ends_word rest ≡ true
    → pieces_of (c ∷ (cs ++ rest)) ≡ (c ∷ cs) ∷ pieces_of rest
pieces_of-word c [] rest p ps e =
    let blank = (plain_byte_parts c p).0 in
    cond-false (is_blank c) (pieces_of rest) (cond (ends_word rest) ((c ∷ []) ∷ pieces_of rest) (onto_first c (pieces_of rest))) blank
    ∙ cond-true (ends_word rest) ((c ∷ []) ∷ pieces_of rest) (onto_first c (pieces_of rest)) e
pieces_of-word c (d ∷ ds) rest p ps e =
    let blank = (plain_byte_parts c p).0 in
    let next = and_parts (is_plain_byte d) (list_all is_plain_byte ds) ps in
    let tail : List ℕ = d ∷ (ds ++ rest) in
    cond-false (is_blank c) (pieces_of tail) (cond (is_blank d) ((c ∷ []) ∷ pieces_of tail) (onto_first c (pieces_of tail))) blank
    ∙ cond-false (is_blank d) ((c ∷ []) ∷ pieces_of tail) (onto_first c (pieces_of tail)) (plain_byte_parts d next.0).0
    ∙ ap (onto_first c) (pieces_of-word d ds rest next.0 next.1 e)

ends_word-following : (words : List (List ℕ)) → ends_word (following words) ≡ true
ends_word-following [] = refl
ends_word-following (w ∷ ws) = refl

abbrev pub ArePlain : List (List ℕ) → Type 0
ArePlain words = AllByRecursion (λ w. is_plain w ≡ true) words

no_plain_nil : false ≡ true → ⊥
no_plain_nil e = cc

pieces_of-following : (words : List (List ℕ)) → ArePlain words → pieces_of (following words) ≡ words
pieces_of-following [] h = refl
pieces_of-following ([] ∷ ws) h = absurd (no_plain_nil h.0)
pieces_of-following ((c ∷ cs) ∷ ws) h =
    let parts = and_parts (is_plain_byte c) (list_all is_plain_byte cs) h.0 in
    pieces_of-word c cs (following ws) parts.0 parts.1 (ends_word-following ws) ∙ ap (λ l. (c ∷ cs) ∷ l) (pieces_of-following ws h.1)

-- lines

-- bytes of a line without comment: none of them is a line feed or begins a comment
abbrev is_line_byte : ℕ → Bool
is_line_byte c = not ((c == 10) || (c == 35))

line_byte_parts : (c : ℕ) → is_line_byte c ≡ true → (eqb c 10 ≡ false) × (eqb c 35 ≡ false)
line_byte_parts c h = or_parts (eqb c 10) (eqb c 35) (not-true (eqb c 10 || eqb c 35) h)

lines_of-line : (line rest : List ℕ) → list_all is_line_byte line ≡ true → lines_of (line ++ 10 ∷ rest) ≡ line ∷ lines_of rest
lines_of-line [] rest h = refl
lines_of-line (c ∷ cs) rest h =
    let parts = and_parts (is_line_byte c) (list_all is_line_byte cs) h in
    cond-false (eqb c 10) ([] ∷ lines_of (cs ++ 10 ∷ rest)) (onto_first c (lines_of (cs ++ 10 ∷ rest))) (line_byte_parts c parts.0).0
    ∙ ap (onto_first c) (lines_of-line cs rest parts.1)

no_comment : (line : List ℕ) → list_all is_line_byte line ≡ true → position_or_len (λ c. c == 35) line ≡ length line
no_comment [] h = refl
no_comment (c ∷ cs) h =
    let parts = and_parts (is_line_byte c) (list_all is_line_byte cs) h in
    cond-true (not (eqb c 35)) (1 + position_or_len (λ c. c == 35) cs) 0 (ap not (line_byte_parts c parts.0).1) ∙ omega (arith, no_comment cs parts.1)

before_first-line : (line : List ℕ) → list_all is_line_byte line ≡ true → before_first (λ c. c == 35) line ≡ line
before_first-line line h = take_all (position_or_len (λ c. c == 35) line) line (omega (arith, no_comment line h))

-- a plain word stands in a line
plain_in_line : (c : ℕ) → is_plain_byte c ≡ true → is_line_byte c ≡ true
plain_in_line c h =
    let parts = plain_byte_parts c h in
    ap not (or_from (eqb c 10) (eqb c 35) parts.1 parts.2)

pub list_all-append : (p : ℕ → Bool) (xs ys : List ℕ) → list_all p xs ≡ true → list_all p ys ≡ true → list_all p (xs ++ ys) ≡ true
list_all-append p [] ys h k = k
list_all-append p (x ∷ xs) ys h k =
    let parts = and_parts (p x) (list_all p xs) h in
    and_from (p x) (list_all p (xs ++ ys)) parts.0 (list_all-append p xs ys parts.1 k)

word_in_line : (cs : List ℕ) → list_all is_plain_byte cs ≡ true → list_all is_line_byte cs ≡ true
word_in_line [] h = refl
word_in_line (c ∷ cs) h =
    let parts = and_parts (is_plain_byte c) (list_all is_plain_byte cs) h in
    and_from (is_line_byte c) (list_all is_line_byte cs) (plain_in_line c parts.0) (word_in_line cs parts.1)

plain_word_in_line : (word : List ℕ) → is_plain word ≡ true → list_all is_line_byte word ≡ true
plain_word_in_line [] h = refl
plain_word_in_line (c ∷ cs) h = word_in_line (c ∷ cs) h

following_in_line : (words : List (List ℕ)) → ArePlain words → list_all is_line_byte (following words) ≡ true
following_in_line [] h = refl
following_in_line (w ∷ ws) h = list_all-append is_line_byte w (following ws) (plain_word_in_line w h.0) (following_in_line ws h.1)

-- the words of one line, at least one
abbrev pub IsPlainLine : List (List ℕ) → Type 0
IsPlainLine [] = ⊥
IsPlainLine (word ∷ words) = ArePlain (word ∷ words)

-- a line without its line feed
abbrev pub bare_line : List (List ℕ) → List ℕ
bare_line [] = []
bare_line (word ∷ words) = word ++ following words

bare_in_line : (words : List (List ℕ)) → IsPlainLine words → list_all is_line_byte (bare_line words) ≡ true
bare_in_line [] h = refl
bare_in_line (w ∷ ws) h = list_all-append is_line_byte w (following ws) (plain_word_in_line w h.0) (following_in_line ws h.1)

pieces_of-line : (words : List (List ℕ)) → IsPlainLine words → pieces_of (bare_line words) ≡ words
pieces_of-line [] h = elim h [ ]
pieces_of-line ([] ∷ ws) h = absurd (no_plain_nil h.0)
pieces_of-line ((c ∷ cs) ∷ ws) h =
    let parts = and_parts (is_plain_byte c) (list_all is_plain_byte cs) h.0 in
    pieces_of-word c cs (following ws) parts.0 parts.1 (ends_word-following ws) ∙ ap (λ l. (c ∷ cs) ∷ l) (pieces_of-following ws h.1)

-- a line's words are those that it was written from
pub words_of-line : (words : List (List ℕ)) → IsPlainLine words → words_of (bare_line words) ≡ words
words_of-line words h = ap pieces_of (before_first-line (bare_line words) (bare_in_line words h)) ∙ pieces_of-line words h

line_text-bare : (words : List (List ℕ)) (rest : List ℕ) → line_text words ++ rest ≡ bare_line words ++ 10 ∷ rest
line_text-bare [] rest = refl
line_text-bare (w ∷ ws) rest = append_assoc (w ++ following ws) (10 ∷ []) rest

-- the lines of a text are those that it was written from
pub lines_of-text : (lines : List (List (List ℕ))) → AllByRecursion IsPlainLine lines → map words_of (lines_of (flat_map line_text lines)) ≡ lines
lines_of-text [] h = refl
lines_of-text (words ∷ lines) h =
    let rest = flat_map line_text lines in
    ap (map words_of) (ap lines_of (line_text-bare words rest) ∙ lines_of-line (bare_line words) rest (bare_in_line words h.0))
    ∙ ap (λ l. l ∷ map words_of (lines_of rest)) (words_of-line words h.0) ∙ ap (λ ls. words ∷ ls) (lines_of-text lines h.1)
