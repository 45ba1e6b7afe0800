-- The word `=`.
use Rattle.std.proofs.Common.{◌≡◌, ◌==◌, ℕ, suc, ◌-◌, ◌≤◌, Bool, true, false, List, [], ◌∷◌, codes, length, get_or, take, drop, refl, sym, ◌∙◌, ap, arith}
use Rattle.std.proofs.lemmas.Bool.{and_right, ne_eqb, true≢false}
use Rattle.std.proofs.lemmas.List.{drop_more, take_rest}
use Rattle.std.specs.List.{position_or_len}
use Rattle.machine_data.specs.Opcodes.{same_word}
use Rattle.loop_lines.specs.Forms.{Malformed, array_line, init_line, param_line, value_line}
use Rattle.loop_lines.specs.Words.{is_blank, starts_blank, stops_word, words_of}
use Rattle.loop_lines.specs.inner.Stops.{begins_equals, begins_stop, is_equation}
use Rattle.loop_lines.proofs.Cuts.{word_taken, words_none, words_of-blank}

one_stop : (after : List ℕ) → begins_stop after ≡ true → position_or_len stops_word (61 ∷ after) ≡ 1
one_stop [] h = refl
one_stop (c ∷ cs) h = rw h refl

pub taken : (rest text after : List ℕ) → words_of text ≡ words_of rest → text ≡ 61 ∷ after → begins_stop after ≡ true → words_of rest ≡ codes "=" ∷ words_of after
taken rest text after same is stop =
    sym same ∙ ap words_of is ∙ word_taken (61 ∷ after) (61 ∷ after) (61 ∷ []) after 1 refl (omega arith) (sym (one_stop after stop)) refl refl

parts : (text : List ℕ) → 3 ≤ length text → text ≡ get_or text 0 0 ∷ get_or text 1 0 ∷ get_or text 2 0 ∷ take (length text - 3) (drop 3 text)
parts text h =
    drop_more text 0 0 (omega arith) ∙ ap (λ xs. get_or text 0 0 ∷ xs) (drop_more text 1 0 (omega arith))
    ∙ ap (λ xs. get_or text 0 0 ∷ get_or text 1 0 ∷ xs) (drop_more text 2 0 (omega arith))
    ∙ ap (λ xs. get_or text 0 0 ∷ get_or text 1 0 ∷ get_or text 2 0 ∷ xs) (sym (take_rest text 3))

-- between two spaces, as a slice pattern takes it
pub spaced : (text : List ℕ) → 3 ≤ length text → get_or text 0 0 ≡ 32 → get_or text 1 0 ≡ 61 → get_or text 2 0 ≡ 32 → words_of text ≡ codes "=" ∷ words_of (take (length text - 3) (drop 3 text))
spaced text h a b c =
    let after = take (length text - 3) (drop 3 text) in
    let is : text ≡ 32 ∷ 61 ∷ 32 ∷ after = parts text h ∙ rw (a, b, c) refl in
    ap words_of is ∙ words_of-blank 32 (61 ∷ 32 ∷ after) refl
    ∙ taken (61 ∷ 32 ∷ after) (61 ∷ 32 ∷ after) (32 ∷ after) refl refl refl
    ∙ ap (λ ws. codes "=" ∷ ws) (words_of-blank 32 after refl)

further : (c : ℕ) (cs : List ℕ) → stops_word c ≡ false → position_or_len stops_word (c ∷ cs) ≡ suc (position_or_len stops_word cs)
further c cs h = rw h (omega arith)

-- the first word of what begins with no stop begins with its first byte
first_word : (c : ℕ) (cs : List ℕ) → stops_word c ≡ false → words_of (c ∷ cs) ≡ (c ∷ take (position_or_len stops_word cs) cs) ∷ words_of (drop (position_or_len stops_word cs) cs)
first_word c cs h =
    let n = position_or_len stops_word cs in
    word_taken (c ∷ cs) (c ∷ cs) (c ∷ take n cs) (drop n cs) (suc n) refl (omega arith) (sym (further c cs h)) refl refl

other-at : (c : ℕ) (cs : List ℕ) (stop : Bool) → stops_word c ≡ stop → is_blank c ≡ false → (c == 61) ≡ false → begins_equals (words_of (c ∷ cs)) ≡ false
other-at c cs true e blank other = ap begins_equals (words_none (c ∷ cs) blank (rw e refl))
other-at c cs false e blank other = ap begins_equals (first_word c cs e) ∙ rw other refl

other-text : (text : List ℕ) → starts_blank text ≡ false → ((after : List ℕ) → text ≡ 61 ∷ after → ⊥) → begins_equals (words_of text) ≡ false
other-text [] blank other = refl
other-text (c ∷ cs) blank other = other-at c cs (stops_word c) refl blank (ne_eqb c 61 (λ e. other cs (ap (λ d. d ∷ cs) e)))

pub other_byte : (rest text : List ℕ) → words_of text ≡ words_of rest → starts_blank text ≡ false → ((after : List ℕ) → text ≡ 61 ∷ after → ⊥) → begins_equals (words_of rest) ≡ false
other_byte rest text same blank other = ap begins_equals (sym same) ∙ other-text text blank other

longer-at : (after : List ℕ) → begins_stop after ≡ false → begins_equals (words_of (61 ∷ after)) ≡ false
longer-at [] h = absurd (true≢false h)
longer-at (d ∷ ds) h =
    let n = position_or_len stops_word ds in
    ap begins_equals (first_word 61 (d ∷ ds) refl) ∙ ap (λ m. same_word (61 ∷ take m (d ∷ ds)) (codes "=")) (further d ds h)

pub longer_word : (rest text after : List ℕ) → words_of text ≡ words_of rest → text ≡ 61 ∷ after → begins_stop after ≡ false → begins_equals (words_of rest) ≡ false
longer_word rest text after same is goes_on = ap begins_equals (sym same ∙ ap words_of is) ∙ longer-at after goes_on

-- lines without it in its place

pub no_value : (name : List ℕ) (words : List (List ℕ)) → begins_equals words ≡ false → value_line name words ≡ Malformed
no_value name [] h = refl
no_value name (equals ∷ []) h = refl
no_value name (equals ∷ opcode ∷ words) h = rw (h, and_right) refl

pub no_array : (name : List ℕ) (words : List (List ℕ)) → begins_equals words ≡ false → array_line (name ∷ words) ≡ Malformed
no_array name [] h = refl
no_array name (equals ∷ cells) h = rw (h, and_right) refl

pub no_param : (words : List (List ℕ)) → is_equation words ≡ false → param_line words ≡ Malformed
no_param [] h = refl
no_param (name ∷ []) h = refl
no_param (name ∷ equals ∷ []) h = refl
no_param (name ∷ equals ∷ value ∷ []) h = rw (h, and_right) refl
no_param (name ∷ equals ∷ value ∷ more ∷ words) h = refl

pub no_init : (words : List (List ℕ)) → is_equation words ≡ false → init_line words ≡ Malformed
no_init [] h = refl
no_init (what ∷ []) h = refl
no_init (what ∷ equals ∷ []) h = refl
no_init (what ∷ equals ∷ value ∷ []) h = rw (h, and_right) refl
no_init (what ∷ equals ∷ value ∷ more ∷ words) h = refl
