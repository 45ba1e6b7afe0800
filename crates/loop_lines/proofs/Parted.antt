-- A word by the first byte of a value that stands in no name.
use Rattle.std.proofs.Common.{◌≡◌, ◌==◌, ℕ, suc, ◌+◌, ◌<◌, ◌≤◌, ◌&&◌, Bool, true, false, nat_lt, cond, List, [], ◌∷◌, length, get_or, take, drop, Option, Some, None, refl, sym, ◌∙◌, ap, subst, arith, eq-eqb, inl, inr}
use Rattle.std.proofs.lemmas.Bool.{and_left, and_right, cases_lt, eqb-true, le-ltb, ne_eqb, true≢false}
use Rattle.std.proofs.lemmas.Bool.Decides.{nat_tests}
use Rattle.std.proofs.lemmas.List.{drop_all, drop_more, get_or-take, length-drop, length-take}
use Rattle.std.proofs.lemmas.List.Sums.{passes_at_first, position_or_len_is}
use Rattle.std.specs.List.{after_first, before_first, list_any, position_or_len}
use Rattle.loop_data.specs.Names.{is_name, is_name_byte}
use Rattle.loop_lines.specs.Forms.{at_of, place_of}
use Rattle.loop_lines.proofs.AtSigns.{any_there}
use Rattle.loop_lines.proofs.NameBytes.{drop_head, no_name_at, other_at, stands_before, stands_in_none}

differ : (b c : ℕ) → is_name_byte b ≡ false → is_name_byte c ≡ true → (c == b) ≡ false
differ b c none name = ne_eqb c b (λ e. true≢false (sym name ∙ ap is_name_byte e ∙ none))

head_at : (word rest after : List ℕ) (n b : ℕ) → rest ≡ drop n word → rest ≡ b ∷ after → get_or word n 0 ≡ b
head_at word rest after n b r h = sym (drop_head word n) ∙ sym (ap (λ xs. get_or xs 0 0) r) ∙ ap (λ xs. get_or xs 0 0) h

inside : (word rest after : List ℕ) (n b : ℕ) → rest ≡ drop n word → rest ≡ b ∷ after → n < length word
inside word rest after n b r h = omega (arith, length-drop n word, ap length r, ap length h)

first_is : (word : List ℕ) (n b : ℕ) → is_name_byte b ≡ false → n ≡ position_or_len stands_in_none word → n < length word → get_or word n 0 ≡ b → position_or_len (λ c. c == b) word ≡ n
first_is word n b none e lt at =
    position_or_len_is (λ c. c == b) word n 0 (omega arith) (λ k less. differ b (get_or word k 0) none (stands_before word n k e less)) (λ _. eq-eqb (get_or word n 0) b at)

pub there : (word rest after : List ℕ) (n b : ℕ) → is_name_byte b ≡ false → n ≡ position_or_len stands_in_none word → rest ≡ drop n word → rest ≡ b ∷ after → list_any (λ c. c == b) word ≡ true
there word rest after n b none e r h =
    let first = first_is word n b none e (inside word rest after n b r h) (head_at word rest after n b r h) in
    any_there (λ c. c == b) word (subst (λ (m : ℕ). m < length word) (sym first) (inside word rest after n b r h))

pub front_is : (word front rest after : List ℕ) (n b : ℕ) → is_name_byte b ≡ false → n ≡ position_or_len stands_in_none word → front ≡ take n word → rest ≡ drop n word → rest ≡ b ∷ after → front ≡ before_first (λ c. c == b) word
front_is word front rest after n b none e f r h =
    let first = first_is word n b none e (inside word rest after n b r h) (head_at word rest after n b r h) in
    f ∙ ap (λ m. take m word) (sym first)

pub back_is : (word rest after : List ℕ) (n b : ℕ) → is_name_byte b ≡ false → n ≡ position_or_len stands_in_none word → rest ≡ drop n word → rest ≡ b ∷ after → after ≡ after_first (λ c. c == b) word
back_is word rest after n b none e r h =
    let lt = inside word rest after n b r h in
    let first = first_is word n b none e lt (head_at word rest after n b r h) in
    let both : b ∷ after ≡ get_or word n 0 ∷ drop (n + 1) word = sym h ∙ r ∙ drop_more word n 0 lt in
    ap (drop 1) both ∙ ap (λ m. drop (m + 1) word) (sym first)

-- the first byte of this value, if there is one, has a byte before it that stands in no name
pub none_named : (word rest : List ℕ) (n b : ℕ) → is_name_byte b ≡ false → n ≡ position_or_len stands_in_none word → rest ≡ drop n word → ((after : List ℕ) → rest ≡ b ∷ after → ⊥)
    → (nat_lt (position_or_len (λ c. c == b) word) (length word) && is_name (before_first (λ c. c == b) word)) ≡ false
none_named word rest n b none e r other =
    let is_b = λ (c : ℕ). c == b in
    let m = position_or_len is_b word in
    let name = is_name (before_first is_b word) in
    elim (cases_lt m (length word)) [
      | inr past ↦ and_left (nat_lt m (length word)) name (le-ltb m (length word) past)
      | inl within ↦
          let at = passes_at_first is_b word 0 within in
          elim (cases_lt n m) [
            | inl later ↦
                let bad : is_name_byte (get_or (take m word) n 0) ≡ false = ap is_name_byte (get_or-take m word n 0 later) ∙ other_at word n e (omega arith) in
                and_right (nat_lt m (length word)) name (no_name_at (take m word) n (omega (arith, length-take m word)) bad)
            | inr early ↦
                elim (cases_lt m n) [
                  | inl before ↦ absurd (true≢false (sym at ∙ differ b (get_or word m 0) none (stands_before word n m e before)))
                  | inr after ↦
                      let same : m ≡ n = omega arith in
                      let here : get_or word n 0 ≡ b = subst (λ (k : ℕ). get_or word k 0 ≡ b) same (eqb-true (get_or word m 0) b at) in
                      absurd (other (drop (n + 1) word) (r ∙ drop_more word n 0 (omega arith) ∙ ap (λ c. c ∷ drop (n + 1) word) here))
                ]
          ]
    ]

next_lt : (a b : ℕ) → nat_lt (1 + a) (suc b) ≡ nat_lt a b
next_lt a b = grind (arith, nat_tests)

some_lt : (n : ℕ) → nat_lt 0 (suc n) ≡ true
some_lt n = grind (arith, nat_tests)

any-at : (p : ℕ → Bool) (c : ℕ) (cs : List ℕ) (b : Bool) → p c ≡ b → list_any p cs ≡ nat_lt (position_or_len p cs) (length cs) → list_any p (c ∷ cs) ≡ nat_lt (position_or_len p (c ∷ cs)) (length (c ∷ cs))
any-at p c cs true e ih = rw e (sym (some_lt (length cs)))
any-at p c cs false e ih = rw e (ih ∙ sym (next_lt (position_or_len p cs) (length cs)))

any_is : (p : ℕ → Bool) (xs : List ℕ) → list_any p xs ≡ nat_lt (position_or_len p xs) (length xs)
any_is p [] = refl
any_is p (c ∷ cs) = any-at p c cs (p c) refl (any_is p cs)

at-by : (any name number : Bool) {A : Type 0} (r : A) → (any && name) ≡ false → cond any (cond (name && number) (Some r) None) None ≡ None
at-by true true number r h = absurd (true≢false h)
at-by true false number r h = refl
at-by false name number r h = refl

pub no_named_at : (word : List ℕ) → (nat_lt (position_or_len (λ c. c == 64) word) (length word) && is_name (before_first (λ c. c == 64) word)) ≡ false
    → cond (list_any (λ c. c == 64) word) (at_of (before_first (λ c. c == 64) word) (after_first (λ c. c == 64) word)) None ≡ None
no_named_at word h = at-by _ _ _ _ (ap (λ b. b && is_name (before_first (λ c. c == 64) word)) (any_is (λ c. c == 64) word) ∙ h)

none-by : (some name : Bool) (some_rest last : Bool) {A : Type 0} (r : Option A) → (some && name) ≡ false → (some ≡ false → some_rest ≡ false) → cond (name && some_rest && last) r None ≡ None
none-by true true some_rest last r h f = absurd (true≢false h)
none-by true false some_rest last r h f = refl
none-by false true some_rest last r h f = rw (f refl) refl
none-by false false some_rest last r h f = refl

nothing_after : (word : List ℕ) (m : ℕ) → nat_lt m (length word) ≡ false → nat_lt 0 (length (drop (m + 1) word)) ≡ false
nothing_after word m h =
    let past : length word ≤ m = grind (arith, nat_tests) in
    ap (λ xs. nat_lt 0 (length xs)) (drop_all (m + 1) word (omega arith))

pub no_named_place : (word : List ℕ) → (nat_lt (position_or_len (λ c. c == 91) word) (length word) && is_name (before_first (λ c. c == 91) word)) ≡ false → place_of word ≡ None
unfolding place_of
no_named_place word h = none-by _ _ _ _ _ h (nothing_after word (position_or_len (λ c. c == 91) word))
