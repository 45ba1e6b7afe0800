-- The words of a rest of a line.
use Rattle.std.proofs.Common.{◌≡◌, ◌==◌, ℕ, suc, ℤ, ◌≤◌, ◌||◌, not, is_some, is_none, Bool, true, false, cond, List, [], ◌∷◌, ◌++◌, length, Option, Some, None, option_map, refl, sym, ◌∙◌, ap, arith, append_assoc, length-take}
use Rattle.std.specs.List.{before_first, list_any, position_or_len}
use Rattle.std.proofs.lemmas.List.Folds.{list_any-append}
use Rattle.loop_lines.specs.Forms.{int_of, ints_of, with_int}
use Rattle.loop_lines.specs.Words.{pieces_of, onto_first, is_blank, ends_word, words_of}

length-onto_first : (c : ℕ) (ps : List (List ℕ)) (n : ℕ) → length ps ≤ n → length (onto_first c ps) ≤ suc n
length-onto_first c [] n h = omega arith
length-onto_first c (p ∷ ps) n h = omega arith

length-more : (b : Bool) (c : ℕ) (ps : List (List ℕ)) (n : ℕ) → length ps ≤ n → length (cond b ((c ∷ []) ∷ ps) (onto_first c ps)) ≤ suc n
length-more true c ps n h = omega arith
length-more false c ps n h = length-onto_first c ps n h

length-blank : (b d : Bool) (c : ℕ) (ps : List (List ℕ)) (n : ℕ) → length ps ≤ n → length (cond b ps (cond d ((c ∷ []) ∷ ps) (onto_first c ps))) ≤ suc n
length-blank true d c ps n h = omega arith
length-blank false d c ps n h = length-more d c ps n h

-- there are no more words than bytes
length-pieces_of : (rest : List ℕ) → length (pieces_of rest) ≤ length rest
length-pieces_of [] = omega arith
length-pieces_of (c ∷ cs) = length-blank (is_blank c) (ends_word cs) c (pieces_of cs) (length cs) (length-pieces_of cs)

pub length-words_of : (rest : List ℕ) → length (words_of rest) ≤ length rest
length-words_of rest =
    let line = before_first (λ c. c == 35) rest in
    omega (arith, length-pieces_of line, length-take (position_or_len (λ c. c == 35) rest) rest)

-- integers in front of others
abbrev pub after : List (Option ℤ) → Option (List (Option ℤ)) → Option (List (Option ℤ))
after done rest = option_map (λ others. done ++ others) rest

after-with : (done : List (Option ℤ)) (v : Option ℤ) (rest : Option (List (Option ℤ))) → after done (with_int (Some v) rest) ≡ after (done ++ v ∷ []) rest
after-with done v None = refl
after-with done v (Some others) = ap Some (sym (append_assoc done (v ∷ []) others))

-- one more integer is read
pub ints-more : (all : Option (List (Option ℤ))) (done : List (Option ℤ)) (word : List ℕ) (pieces others : List (List ℕ)) (v : Option ℤ)
    → all ≡ after done (ints_of pieces) → pieces ≡ word ∷ others → Some v ≡ int_of word → all ≡ after (done ++ v ∷ []) (ints_of others)
ints-more all done word pieces others v e p i =
    e ∙ ap (λ ps. after done (ints_of ps)) p ∙ ap (λ r. after done (with_int r (ints_of others))) (sym i) ∙ after-with done v (ints_of others)

pub ints-start : (all : Option (List (Option ℤ))) → all ≡ after [] all
ints-start None = refl
ints-start (Some ints) = refl

or-false : (b : Bool) → (b || false) ≡ b
or-false true = refl
or-false false = refl

-- a test of one more integer
pub any-more : (p : Option ℤ → Bool) (done : List (Option ℤ)) (v : Option ℤ) (now new : Bool) → now ≡ list_any p done → new ≡ (now || p v) → new ≡ list_any p (done ++ v ∷ [])
any-more p done v now new e f = f ∙ ap (λ b. b || p v) e ∙ sym (list_any-append p done (v ∷ []) ∙ ap (λ b. list_any p done || b) (or-false (p v)))

pub none-test : {A : Type 0} (o : Option A) (r : Bool) → is_some o ≡ not r → r ≡ is_none o
none-test None true h = refl
none-test None false h = cc
none-test (Some x) true h = cc
none-test (Some x) false h = refl
