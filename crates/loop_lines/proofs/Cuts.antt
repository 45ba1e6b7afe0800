-- How a text falls into lines and a line into words, at a cut.
use Rattle.std.proofs.Common.{◌≡◌, ◌==◌, ℕ, suc, ◌+◌, ◌-◌, ◌<◌, ◌≤◌, Bool, true, false, List, [], ◌∷◌, length, get_or, take, drop, refl, sym, ◌∙◌, ap, arith}
use Rattle.std.proofs.lemmas.List.{take_rest, drop_more, take_all, drop_all}
use Rattle.std.specs.List.{before_first, after_first, position_or_len}
use Rattle.std.proofs.lemmas.Bool.Decides.{nat_tests}
use Rattle.loop_lines.specs.Words.{is_blank, lines_of, onto_first, pieces_of, starts_blank, stops_word, words_of}

-- a list that is not empty is its head and the rest, as a slice pattern takes them
pub head_and_rest : (xs : List ℕ) → 0 < length xs → xs ≡ get_or xs 0 0 ∷ take (length xs - 1) (drop 1 xs)
head_and_rest xs h = drop_more xs 0 0 h ∙ ap (λ ys. get_or xs 0 0 ∷ ys) (sym (take_rest xs 1))

-- lines

line_longer : (c : ℕ) (cs : List ℕ) (p : ℕ) → lines_of cs ≡ take p cs ∷ lines_of (drop (p + 1) cs) → onto_first c (lines_of cs) ≡ take (1 + p) (c ∷ cs) ∷ lines_of (drop (1 + p + 1) (c ∷ cs))
line_longer c cs p h =
    let two : 1 + p + 1 ≡ suc (p + 1) = omega arith in
    let one : 1 + p ≡ suc p = omega arith in
    rw (h, two, one) refl

line_cut-at : (c : ℕ) (cs : List ℕ) (b : Bool) → (c == 10) ≡ b → (0 < length cs → lines_of cs ≡ before_first (λ x. x == 10) cs ∷ lines_of (after_first (λ x. x == 10) cs)) → lines_of (c ∷ cs) ≡ before_first (λ x. x == 10) (c ∷ cs) ∷ lines_of (after_first (λ x. x == 10) (c ∷ cs))
line_cut-at c cs true e ih = rw e refl
line_cut-at c [] false e ih = rw e refl
line_cut-at c (d ∷ ds) false e ih = rw e (line_longer c (d ∷ ds) (position_or_len (λ x. x == 10) (d ∷ ds)) (ih (omega arith)))

-- the first line of a text, and the others
line_cut : (text : List ℕ) → 0 < length text → lines_of text ≡ before_first (λ x. x == 10) text ∷ lines_of (after_first (λ x. x == 10) text)
line_cut [] h = absurd (omega arith)
line_cut (c ∷ cs) h = line_cut-at c cs (c == 10) refl (line_cut cs)

-- as slices take them
pub line_taken : (text : List ℕ) (n : ℕ) → 0 < length text → n ≡ position_or_len (λ x. x == 10) text → lines_of text ≡ take n text ∷ lines_of (take (length text - (n + 1)) (drop (n + 1) text))
line_taken text n h e = rw (take_rest text (n + 1), e) (line_cut text h)

pub line_whole : (text : List ℕ) (n : ℕ) → 0 < length text → n ≡ position_or_len (λ x. x == 10) text → length text ≤ n → lines_of text ≡ text ∷ []
line_whole text n h e past =
    line_taken text n h e ∙ rw (take_rest text (n + 1), take_all n text past, drop_all (n + 1) text (omega arith)) refl

-- words

pub blank_no_hash : (c : ℕ) → is_blank c ≡ true → (c == 35) ≡ false
blank_no_hash c h = grind (arith, nat_tests)

pub position_next : (p : ℕ → Bool) (c : ℕ) (cs : List ℕ) → p c ≡ false → position_or_len p (c ∷ cs) ≡ 1 + position_or_len p cs
position_next p c cs h = rw h refl

pub before_next : (p : ℕ → Bool) (c : ℕ) (cs : List ℕ) → p c ≡ false → before_first p (c ∷ cs) ≡ c ∷ before_first p cs
before_next p c cs h =
    let one : 1 + position_or_len p cs ≡ suc (position_or_len p cs) = omega arith in
    ap (λ n. take n (c ∷ cs)) (position_next p c cs h ∙ one)

-- a blank in front is passed over
pub words_of-blank : (c : ℕ) (cs : List ℕ) → is_blank c ≡ true → words_of (c ∷ cs) ≡ words_of cs
words_of-blank c cs h = ap pieces_of (before_next (λ x. x == 35) c cs (blank_no_hash c h)) ∙ rw h refl

-- as a slice pattern takes it
pub blank_passed : (rest : List ℕ) → 0 < length rest → is_blank (get_or rest 0 0) ≡ true → words_of (take (length rest - 1) (drop 1 rest)) ≡ words_of rest
blank_passed rest h blank =
    let tail = take (length rest - 1) (drop 1 rest) in
    sym (ap words_of (head_and_rest rest h) ∙ words_of-blank (get_or rest 0 0) tail blank)

words_none-at : (c : ℕ) (cs : List ℕ) (hash : Bool) → (c == 35) ≡ hash → is_blank c ≡ false → position_or_len stops_word (c ∷ cs) ≡ 0 → words_of (c ∷ cs) ≡ []
words_none-at c cs true e f h = rw e refl
words_none-at c cs false e f h = let one = rw (f, e) at h in absurd (omega arith)

-- nothing but a comment stands where neither a blank nor a word does
pub words_none : (rest : List ℕ) → starts_blank rest ≡ false → position_or_len stops_word rest ≡ 0 → words_of rest ≡ []
words_none [] f h = refl
words_none (c ∷ cs) f h = words_none-at c cs (c == 35) refl f h

word_longer : (c : ℕ) (cs : List ℕ) (p : ℕ) → words_of cs ≡ take p cs ∷ words_of (drop p cs) → onto_first c (words_of cs) ≡ take (1 + p) (c ∷ cs) ∷ words_of (drop (1 + p) (c ∷ cs))
word_longer c cs p h = let one : 1 + p ≡ suc p = omega arith in rw (h, one) refl

one_letter : (c d : ℕ) (xs : List ℕ) → is_blank c ≡ false → is_blank d ≡ true → pieces_of (c ∷ d ∷ xs) ≡ (c ∷ []) ∷ pieces_of (d ∷ xs)
one_letter c d xs f h = rw (f, h) refl

more_letters : (c d : ℕ) (xs : List ℕ) → is_blank c ≡ false → is_blank d ≡ false → pieces_of (c ∷ d ∷ xs) ≡ onto_first c (pieces_of (d ∷ xs))
more_letters c d xs f h = rw (f, h) refl

word_cut-next : (c d : ℕ) (ds : List ℕ) (hash blank : Bool) → (c == 35) ≡ false → is_blank c ≡ false → (d == 35) ≡ hash → is_blank d ≡ blank
    → (0 < position_or_len stops_word (d ∷ ds) → words_of (d ∷ ds) ≡ before_first stops_word (d ∷ ds) ∷ words_of (drop (position_or_len stops_word (d ∷ ds)) (d ∷ ds)))
    → words_of (c ∷ d ∷ ds) ≡ before_first stops_word (c ∷ d ∷ ds) ∷ words_of (drop (position_or_len stops_word (c ∷ d ∷ ds)) (c ∷ d ∷ ds))
word_cut-next c d ds true true e f g h ih = simp (e, f, g, h)
word_cut-next c d ds true false e f g h ih = simp (e, f, g, h)
word_cut-next c d ds false true e f g h ih =
    let is_hash = λ (x : ℕ). x == 35 in
    let one : position_or_len stops_word (c ∷ d ∷ ds) ≡ 1 = rw (f, e, h) refl in
    ap pieces_of (before_next is_hash c (d ∷ ds) e ∙ ap (λ xs. c ∷ xs) (before_next is_hash d ds g))
    ∙ one_letter c d (before_first is_hash ds) f h
    ∙ ap (λ xs. (c ∷ []) ∷ pieces_of xs) (sym (before_next is_hash d ds g))
    ∙ ap (λ n. take n (c ∷ d ∷ ds) ∷ words_of (drop n (c ∷ d ∷ ds))) (sym one)
word_cut-next c d ds false false e f g h ih =
    let is_hash = λ (x : ℕ). x == 35 in
    let more : 0 < position_or_len stops_word (d ∷ ds) = rw (g, h) (omega arith) in
    let goes_on : stops_word c ≡ false = rw (e, f) refl in
    ap pieces_of (before_next is_hash c (d ∷ ds) e ∙ ap (λ xs. c ∷ xs) (before_next is_hash d ds g))
    ∙ more_letters c d (before_first is_hash ds) f h
    ∙ ap (λ xs. onto_first c (pieces_of xs)) (sym (before_next is_hash d ds g))
    ∙ word_longer c (d ∷ ds) (position_or_len stops_word (d ∷ ds)) (ih more)
    ∙ ap (λ n. take n (c ∷ d ∷ ds) ∷ words_of (drop n (c ∷ d ∷ ds))) (sym (position_next stops_word c (d ∷ ds) goes_on))

word_cut-at : (c : ℕ) (cs : List ℕ) (hash blank : Bool) → (c == 35) ≡ hash → is_blank c ≡ blank → 0 < position_or_len stops_word (c ∷ cs)
    → (0 < position_or_len stops_word cs → words_of cs ≡ before_first stops_word cs ∷ words_of (drop (position_or_len stops_word cs) cs))
    → words_of (c ∷ cs) ≡ before_first stops_word (c ∷ cs) ∷ words_of (drop (position_or_len stops_word (c ∷ cs)) (c ∷ cs))
word_cut-at c cs true true e f h ih = let none = rw f at h in absurd (omega arith)
word_cut-at c cs true false e f h ih = let none = rw (f, e) at h in absurd (omega arith)
word_cut-at c cs false true e f h ih = let none = rw f at h in absurd (omega arith)
word_cut-at c [] false false e f h ih = rw (e, f) refl
word_cut-at c (d ∷ ds) false false e f h ih = word_cut-next c d ds (d == 35) (is_blank d) e f refl refl ih

-- the first word of a rest that begins with one, and the others
word_cut : (rest : List ℕ) → 0 < position_or_len stops_word rest → words_of rest ≡ before_first stops_word rest ∷ words_of (drop (position_or_len stops_word rest) rest)
word_cut [] h = absurd (omega arith)
word_cut (c ∷ cs) h = word_cut-at c cs (c == 35) (is_blank c) refl refl h (word_cut cs)

-- as slices take them
pub word_taken : (line rest front back : List ℕ) (n : ℕ) → words_of rest ≡ words_of line → 0 < n → n ≡ position_or_len stops_word rest → front ≡ take n rest → back ≡ drop n rest → words_of line ≡ front ∷ words_of back
word_taken line rest front back n same h e f b =
    let some : 0 < position_or_len stops_word rest = omega arith in
    sym same ∙ word_cut rest some ∙ rw (f, b, e) refl
