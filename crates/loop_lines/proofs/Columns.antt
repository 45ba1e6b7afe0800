-- How a line falls into words with their columns, at a cut.
use Rattle.std.proofs.Common.{◌≡◌, ◌==◌, ℕ, suc, ◌+◌, ◌-◌, ◌<◌, Bool, true, false, List, [], ◌∷◌, length, get_or, map, take, drop, refl, sym, ◌∙◌, ap, arith}
use Rattle.std.specs.List.{before_first, position_or_len}
use Rattle.loop_lines.specs.Words.{is_blank, starts_blank, stops_word, ends_word, pieces_of}
use Rattle.loop_lines.specs.Words as words
use Rattle.loop_lines.proofs.Cuts.{before_next, blank_no_hash, head_and_rest, position_next}
use Rattle.loop_lines.specs.Columns.{Placed, WordsAreWords, onto_placed, pieces_from, words_from}

-- a blank in front is passed over
from-blank : (column c : ℕ) (cs : List ℕ) → is_blank c ≡ true → words_from column (c ∷ cs) ≡ words_from (column + 1) cs
from-blank column c cs h = ap (pieces_from column) (before_next (λ x. x == 35) c cs (blank_no_hash c h)) ∙ rw h refl

-- as a slice pattern takes it
pub blank_passed : (column : ℕ) (rest : List ℕ) → 0 < length rest → is_blank (get_or rest 0 0) ≡ true → words_from (column + 1) (take (length rest - 1) (drop 1 rest)) ≡ words_from column rest
blank_passed column rest h blank =
    let tail = take (length rest - 1) (drop 1 rest) in
    sym (ap (words_from column) (head_and_rest rest h) ∙ from-blank column (get_or rest 0 0) tail blank)

words_none-at : (column c : ℕ) (cs : List ℕ) (hash : Bool) → (c == 35) ≡ hash → is_blank c ≡ false → position_or_len stops_word (c ∷ cs) ≡ 0 → words_from column (c ∷ cs) ≡ []
words_none-at column c cs true e f h = rw e refl
words_none-at column c cs false e f h = let one = rw (f, e) at h in absurd (omega arith)

-- nothing but a comment stands where neither a blank nor a word does
pub words_none : (column : ℕ) (rest : List ℕ) → starts_blank rest ≡ false → position_or_len stops_word rest ≡ 0 → words_from column rest ≡ []
words_none column [] f h = refl
words_none column (c ∷ cs) f h = words_none-at column c cs (c == 35) refl f h

word_longer : (column c : ℕ) (cs : List ℕ) (p : ℕ) → words_from (column + 1) cs ≡ record { bytes = take p cs; column = column + 1 } ∷ words_from (column + 1 + p) (drop p cs)
    → onto_placed c column (words_from (column + 1) cs) ≡ record { bytes = take (1 + p) (c ∷ cs); column = column } ∷ words_from (column + (1 + p)) (drop (1 + p) (c ∷ cs))
word_longer column c cs p h =
    let one : 1 + p ≡ suc p = omega arith in
    let same : column + 1 + p ≡ column + suc p = omega arith in
    rw (h, one, same) refl

one_letter : (column c d : ℕ) (xs : List ℕ) → is_blank c ≡ false → is_blank d ≡ true → pieces_from column (c ∷ d ∷ xs) ≡ record { bytes = c ∷ []; column = column } ∷ pieces_from (column + 1) (d ∷ xs)
one_letter column c d xs f h = rw (f, h) refl

more_letters : (column c d : ℕ) (xs : List ℕ) → is_blank c ≡ false → is_blank d ≡ false → pieces_from column (c ∷ d ∷ xs) ≡ onto_placed c column (pieces_from (column + 1) (d ∷ xs))
more_letters column c d xs f h = rw (f, h) refl

-- the first word of this rest, which has some bytes in front, and the others
abbrev word_first : ℕ → List ℕ → Type 0
word_first column rest = words_from column rest ≡ record { bytes = before_first stops_word rest; column = column } ∷ words_from (column + position_or_len stops_word rest) (drop (position_or_len stops_word rest) rest)

word_cut-next : (column c d : ℕ) (ds : List ℕ) (hash blank : Bool) → (c == 35) ≡ false → is_blank c ≡ false → (d == 35) ≡ hash → is_blank d ≡ blank
    → (0 < position_or_len stops_word (d ∷ ds) → word_first (column + 1) (d ∷ ds))
    → word_first column (c ∷ d ∷ ds)
word_cut-next column c d ds true true e f g h ih = simp (e, f, g, h)
word_cut-next column c d ds true false e f g h ih = simp (e, f, g, h)
word_cut-next column c d ds false true e f g h ih =
    let is_hash = λ (x : ℕ). x == 35 in
    let one : position_or_len stops_word (c ∷ d ∷ ds) ≡ 1 = rw (f, e, h) refl in
    ap (pieces_from column) (before_next is_hash c (d ∷ ds) e ∙ ap (λ xs. c ∷ xs) (before_next is_hash d ds g))
    ∙ one_letter column c d (before_first is_hash ds) f h
    ∙ ap (λ xs. record { bytes = c ∷ []; column = column } ∷ pieces_from (column + 1) xs) (sym (before_next is_hash d ds g))
    ∙ ap (λ n. record { bytes = take n (c ∷ d ∷ ds); column = column } ∷ words_from (column + n) (drop n (c ∷ d ∷ ds))) (sym one)
word_cut-next column c d ds false false e f g h ih =
    let is_hash = λ (x : ℕ). x == 35 in
    let more : 0 < position_or_len stops_word (d ∷ ds) = rw (g, h) (omega arith) in
    let goes_on : stops_word c ≡ false = rw (e, f) refl in
    ap (pieces_from column) (before_next is_hash c (d ∷ ds) e ∙ ap (λ xs. c ∷ xs) (before_next is_hash d ds g))
    ∙ more_letters column c d (before_first is_hash ds) f h
    ∙ ap (λ xs. onto_placed c column (pieces_from (column + 1) xs)) (sym (before_next is_hash d ds g))
    ∙ word_longer column c (d ∷ ds) (position_or_len stops_word (d ∷ ds)) (ih more)
    ∙ ap (λ n. record { bytes = take n (c ∷ d ∷ ds); column = column } ∷ words_from (column + n) (drop n (c ∷ d ∷ ds))) (sym (position_next stops_word c (d ∷ ds) goes_on))

word_cut-at : (column c : ℕ) (cs : List ℕ) (hash blank : Bool) → (c == 35) ≡ hash → is_blank c ≡ blank → 0 < position_or_len stops_word (c ∷ cs)
    → (0 < position_or_len stops_word cs → word_first (column + 1) cs)
    → word_first column (c ∷ cs)
word_cut-at column c cs true true e f h ih = let none = rw f at h in absurd (omega arith)
word_cut-at column c cs true false e f h ih = let none = rw (f, e) at h in absurd (omega arith)
word_cut-at column c cs false true e f h ih = let none = rw f at h in absurd (omega arith)
word_cut-at column c [] false false e f h ih = rw (e, f) refl
word_cut-at column c (d ∷ ds) false false e f h ih = word_cut-next column c d ds (d == 35) (is_blank d) e f refl refl ih

word_cut : (column : ℕ) (rest : List ℕ) → 0 < position_or_len stops_word rest → word_first column rest
word_cut column [] h = absurd (omega arith)
word_cut column (c ∷ cs) h = word_cut-at column c cs (c == 35) (is_blank c) refl refl h (word_cut (column + 1) cs)

-- as slices take them
pub word_taken : (column start : ℕ) (line rest front back : List ℕ) (n : ℕ) → words_from start rest ≡ words_from column line → 0 < n → n ≡ position_or_len stops_word rest → front ≡ take n rest → back ≡ drop n rest → length front ≡ n
    → words_from column line ≡ record { bytes = front; column = start } ∷ words_from (start + length front) back
word_taken column start line rest front back n same h e f b long =
    let some : 0 < position_or_len stops_word rest = omega arith in
    sym same ∙ word_cut start rest some ∙ rw (long, f, b, e) refl

-- the words without their columns

onto-same : (c column : ℕ) (ws : List Placed) (xs : List (List ℕ)) → map (λ (w : Placed). w.bytes) ws ≡ xs → map (λ (w : Placed). w.bytes) (onto_placed c column ws) ≡ words.onto_first c xs
onto-same c column [] xs h = rw (sym h) refl
onto-same c column (w ∷ ws) xs h = rw (sym h) refl

same-at : (c : ℕ) (cs : List ℕ) (column : ℕ) (blank ends : Bool) → is_blank c ≡ blank → ends_word cs ≡ ends → map (λ (w : Placed). w.bytes) (pieces_from (column + 1) cs) ≡ pieces_of cs
    → map (λ (w : Placed). w.bytes) (pieces_from column (c ∷ cs)) ≡ pieces_of (c ∷ cs)
same-at c cs column true ends e f h = rw e h
same-at c cs column false true e f h = rw (e, f) (ap (λ xs. (c ∷ []) ∷ xs) h)
same-at c cs column false false e f h = rw (e, f) (onto-same c column (pieces_from (column + 1) cs) (pieces_of cs) h)

pub same_pieces : (column : ℕ) (cs : List ℕ) → map (λ (w : Placed). w.bytes) (pieces_from column cs) ≡ pieces_of cs
same_pieces column [] = refl
same_pieces column (c ∷ cs) = same-at c cs column (is_blank c) (ends_word cs) refl refl (same_pieces (column + 1) cs)

pub same_words : WordsAreWords
same_words line = same_pieces 1 (before_first (λ c. c == 35) line)
