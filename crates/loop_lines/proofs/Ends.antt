-- Where a word ends whose first bytes may stand in a name.
use Rattle.std.proofs.Common.{◌≡◌, ℕ, ◌+◌, ◌-◌, ◌<◌, ◌≤◌, true, false, List, [], ◌∷◌, length, get_or, take, drop, refl, sym, ◌∙◌, ap, arith, inl, inr, not}
use Rattle.std.proofs.lemmas.Bool.{cases_lt, true≢false}
use Rattle.std.proofs.lemmas.Bool.Decides.{nat_tests}
use Rattle.std.proofs.lemmas.List.{drop_more, get_or-drop, get_or-take, length-drop, length-take}
use Rattle.std.proofs.lemmas.List.Sums.{fails_before_first, passes_at_first, position_or_len_is, prefix_len-le-length}
use Rattle.std.specs.List.{position_or_len}
use Rattle.loop_data.specs.Names.{is_name_byte}
use Rattle.loop_lines.specs.Words.{starts_blank, stops_word, words_of}
use Rattle.loop_lines.specs.inner.Stops.{begins_stop}
use Rattle.loop_lines.proofs.Cuts.{word_taken, words_none}
use Rattle.loop_lines.proofs.NameBytes.{other_at, stands_before, stands_in_none}

goes_on : (d : ℕ) → is_name_byte d ≡ true → stops_word d ≡ false
goes_on d h = grind (arith, nat_tests)

none_stops : (text : List ℕ) (n : ℕ) → n ≡ position_or_len stands_in_none text → (k : ℕ) → k < n → stops_word (get_or text k 0) ≡ false
none_stops text n e k lt = goes_on (get_or text k 0) (stands_before text n k e lt)

pub named_within : (text : List ℕ) (n : ℕ) → n ≡ position_or_len stands_in_none text → n ≤ length text
named_within text n e = omega (arith, e, prefix_len-le-length (λ x. not (stands_in_none x)) text)

-- right after them
pub ends_here : (text : List ℕ) (n : ℕ) → n ≡ position_or_len stands_in_none text → begins_stop (drop n text) ≡ true → n ≡ position_or_len stops_word text
ends_here text n e stop =
    sym (position_or_len_is stops_word text n 0 (named_within text n e) (none_stops text n e) (λ lt. sym (ap begins_stop (drop_more text n 0 lt)) ∙ stop))

at_drop : (text : List ℕ) (n k : ℕ) → n ≤ k → get_or (drop n text) (k - n) 0 ≡ get_or text k 0
at_drop text n k past = get_or-drop n text (k - n) 0 ∙ (let same : n + (k - n) ≡ k = omega arith in ap (λ j. get_or text j 0) same)

-- further on
pub ends_further : (text : List ℕ) (n m : ℕ) → n ≡ position_or_len stands_in_none text → m ≡ position_or_len stops_word (drop n text) → n + m ≡ position_or_len stops_word text
ends_further text n m e f =
    let within = named_within text n e in
    let long = length-drop n text in
    let short = prefix_len-le-length (λ x. not (stops_word x)) (drop n text) in
    sym (position_or_len_is stops_word text (n + m) 0 (omega (arith, within, long, short, f))
    (λ k lt. elim (cases_lt k n) [
      | inl front ↦ none_stops text n e k front
      | inr past ↦ sym (ap stops_word (at_drop text n k past)) ∙ fails_before_first stops_word (drop n text) (k - n) 0 (omega (arith, f, lt, past))
    ])
    (λ lt.
    let there : position_or_len stops_word (drop n text) < length (drop n text) = omega (arith, long, f, lt) in
    let same : (n + m) - n ≡ position_or_len stops_word (drop n text) = omega (arith, f) in
    sym (ap stops_word (sym (ap (λ j. get_or (drop n text) j 0) same) ∙ at_drop text n (n + m) (omega arith))) ∙ passes_at_first stops_word (drop n text) 0 there))

-- as many bytes of the word may stand in a name
pub word_counted : (text : List ℕ) (n e : ℕ) → n ≡ position_or_len stands_in_none text → n ≤ e → e ≤ length text → n ≡ position_or_len stands_in_none (take e text)
word_counted text n e is past within =
    let long = length-take e text in
    sym (position_or_len_is stands_in_none (take e text) n 0 (omega (arith, long, past, within))
    (λ k lt. ap stands_in_none (get_or-take e text k 0 (omega arith)) ∙ ap not (stands_before text n k is lt))
    (λ lt. ap stands_in_none (get_or-take e text n 0 (omega (arith, long, lt))) ∙ ap not (other_at text n is (omega (arith, long, lt)))))

-- whether a word is left after the blanks

pub none_left : (rest text : List ℕ) → words_of text ≡ words_of rest → starts_blank text ≡ false → begins_stop text ≡ true → words_of rest ≡ []
none_left rest [] same blank stop = sym same
none_left rest (c ∷ cs) same blank stop = sym same ∙ words_none (c ∷ cs) blank (rw stop refl)

pub some_left : (rest text : List ℕ) → words_of text ≡ words_of rest → begins_stop text ≡ false → 0 < length (words_of rest)
some_left rest [] same goes_on = absurd (true≢false goes_on)
some_left rest (c ∷ cs) same goes_on =
    let n = position_or_len stops_word (c ∷ cs) in
    let some : 0 < n = rw goes_on (omega arith) in
    omega (arith, ap length (word_taken rest (c ∷ cs) (take n (c ∷ cs)) (drop n (c ∷ cs)) n same some refl refl refl))
