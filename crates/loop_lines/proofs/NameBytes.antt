-- The bytes of names, and what a word is by the first byte that stands in none.
use Rattle.std.proofs.Common.{◌≡◌, ◌==◌, ℕ, ◌+◌, ◌-◌, ◌^◌, ◌<◌, ◌≤◌, ◌&&◌, Bool, true, false, not, cond, List, [], ◌∷◌, length, get_or, map, take, drop, Option, Some, None, refl, sym, ◌∙◌, ap, subst, arith, eqb, eq-eqb, inl, inr}
use Rattle.std.proofs.lemmas.Bool.{and_left, and_parts, and_right, cases_lt, cond-false, eqb-true, ne_eqb, false_from_ne_true, true≢false}
use Rattle.std.proofs.lemmas.List.{get_or-drop, get_or-take, length-drop, length-take, drop-drop, take_all, take_rest}
use Rattle.std.proofs.lemmas.List.Folds.{list_all_at}
use Rattle.std.proofs.lemmas.List.Sums.{fails_before_first, passes_at_first, position_or_len_is}
use Rattle.std.proofs.lemmas.List.FromFn.{get_or-map-range_with_len}
use Rattle.std.specs.Char.{is_ascii_digit}
use Rattle.std.specs.List.{before_first, list_all, list_any, position_or_len, range_with_len}
use Rattle.std.specs.Str.{all_ascii_digits}
use Rattle.std.specs.Str.Parse.{digits_value}
use Rattle.loop_lines.specs.Forms.{Use, Plain, at_of, int_of, is_number, named_use_of, signed_of}
use Rattle.loop_data.specs.Names.{is_letter, is_name, is_name_byte, starts_name}
use Rattle.loop_lines.proofs.AtSigns.{any_there, name_bytes, name_starts, no_at, none_at}
use Rattle.loop_lines.proofs.Cuts.{before_next}

-- a table of which bytes stand in names says it of each
pub by_table : (table : List Bool) (b : ℕ) → b < 2 ^ 8 → table ≡ map is_name_byte (range_with_len 0 256) → get_or table b false ≡ is_name_byte b
by_table table b h e = ap (λ bs. get_or bs b false) e ∙ get_or-map-range_with_len is_name_byte 0 256 b b false (omega arith) (omega arith)

-- a byte that stands in no name
abbrev pub stands_in_none : ℕ → Bool
stands_in_none c = not (is_name_byte c)

front-at : (c : ℕ) (cs : List ℕ) (b : Bool) → is_name_byte c ≡ b → list_all is_name_byte (before_first stands_in_none cs) ≡ true → list_all is_name_byte (before_first stands_in_none (c ∷ cs)) ≡ true
front-at c cs true e ih =
    let on : stands_in_none c ≡ false = rw e refl in
    ap (list_all is_name_byte) (before_next stands_in_none c cs on) ∙ rw (e, ih) refl
front-at c cs false e ih = rw e refl

front_stands : (word : List ℕ) → list_all is_name_byte (before_first stands_in_none word) ≡ true
front_stands [] = refl
front_stands (c ∷ cs) = front-at c cs (is_name_byte c) refl (front_stands cs)

-- all bytes before the first that stands in no name may stand in one
pub front_taken : (word : List ℕ) (n : ℕ) → n ≡ position_or_len stands_in_none word → list_all is_name_byte (take n word) ≡ true
front_taken word n e = rw e (front_stands word)

pub all_stand : (word : List ℕ) (n : ℕ) → n ≡ position_or_len stands_in_none word → length word ≤ n → list_all is_name_byte word ≡ true
all_stand word n e whole = sym (ap (list_all is_name_byte) (take_all n word whole)) ∙ front_taken word n e

-- a word with another byte is no name
pub no_name_at : (word : List ℕ) (k : ℕ) → k < length word → is_name_byte (get_or word k 0) ≡ false → is_name word ≡ false
no_name_at word k h other =
    false_from_ne_true (is_name word)
    (λ name. true≢false (sym (name_bytes word (name_starts word name)) ∙ list_all_at is_name_byte word k 0 h other))

pub not_not : (b : Bool) → not b ≡ true → b ≡ false
not_not true h = absurd (true≢false (sym h))
not_not false h = refl

pub not_false : (b : Bool) → not b ≡ false → b ≡ true
not_false true h = refl
not_false false h = absurd (true≢false h)

pub other_at : (word : List ℕ) (n : ℕ) → n ≡ position_or_len stands_in_none word → n < length word → is_name_byte (get_or word n 0) ≡ false
other_at word n e h =
    let p = λ (k : ℕ). is_name_byte (get_or word k 0) ≡ false in
    subst p (sym e) (not_not (is_name_byte (get_or word (position_or_len stands_in_none word) 0)) (passes_at_first stands_in_none word 0 (subst (λ (k : ℕ). k < length word) e h)))

pub stands_before : (word : List ℕ) (n k : ℕ) → n ≡ position_or_len stands_in_none word → k < n → is_name_byte (get_or word k 0) ≡ true
stands_before word n k e h = not_false (is_name_byte (get_or word k 0)) (fails_before_first stands_in_none word k 0 (subst (λ (m : ℕ). k < m) e h))

pub no_name_short : (word : List ℕ) (n : ℕ) → n ≡ position_or_len stands_in_none word → n < length word → is_name word ≡ false
no_name_short word n e h = no_name_at word n h (other_at word n e h)

and-true : (a b : Bool) → b ≡ true → (a && b) ≡ a
and-true true b h = h
and-true false b h = refl

-- a name by its first byte, where all may stand in one
pub starts_by_first : (word : List ℕ) → 0 < length word → list_all is_name_byte word ≡ true → starts_name word ≡ is_letter (get_or word 0 0)
starts_by_first [] h all = absurd (omega arith)
starts_by_first (c ∷ cs) h all =
    let parts = and_parts (is_name_byte c) (list_all is_name_byte cs) all in
    and-true (is_letter c) (list_all is_name_byte cs) parts.1

-- uses

-- a use whose bytes may all stand in a name
pub plain_use : (word : List ℕ) (n : ℕ) → n ≡ position_or_len stands_in_none word → length word ≤ n → named_use_of word ≡ cond (is_name word) (Some (Plain word)) None
plain_use word n e whole = rw (no_at word (all_stand word n e whole)) refl

first_at : (word : List ℕ) (n : ℕ) → n ≡ position_or_len stands_in_none word → n < length word → get_or word n 0 ≡ 64 → position_or_len (λ c. c == 64) word ≡ n
first_at word n e h at =
    position_or_len_is (λ c. c == 64) word n 0 (omega arith) (λ k lt. none_at (get_or word k 0) (stands_before word n k e lt)) (λ _. eq-eqb (get_or word n 0) 64 at)

-- a use with an `@` after such bytes
pub at_use : (word : List ℕ) (n : ℕ) → n ≡ position_or_len stands_in_none word → n < length word → get_or word n 0 ≡ 64 → named_use_of word ≡ at_of (take n word) (drop (n + 1) word)
at_use word n e h at =
    let first = first_at word n e h at in
    let there : list_any (λ c. c == 64) word ≡ true = any_there (λ c. c == 64) word (subst (λ (m : ℕ). m < length word) (sym first) h) in
    rw (there, first) refl

past_other : (word : List ℕ) (n : ℕ) → n ≡ position_or_len stands_in_none word → n < length word → (get_or word n 0 ≡ 64 → ⊥) → n < position_or_len (λ c. c == 64) word
past_other word n e h other =
    let is_at = λ (c : ℕ). c == 64 in
    let m = position_or_len is_at word in
    elim (cases_lt n m) [
      | inl past ↦ past
      | inr within ↦
          let there : m < length word = omega arith in
          let at = passes_at_first is_at word 0 there in
          elim (cases_lt m n) [
            | inl before ↦ absurd (true≢false (sym at ∙ none_at (get_or word m 0) (stands_before word n m e before)))
            | inr after ↦
                let same : m ≡ n = omega arith in
                absurd (other (subst (λ (k : ℕ). get_or word k 0 ≡ 64) same (eqb-true (get_or word m 0) 64 at)))
          ]
    ]

none_either : (b : Bool) (r : Option Use) → r ≡ None → cond b None r ≡ None
none_either true r h = refl
none_either false r h = h

-- a use with another byte there is none
pub no_use : (word : List ℕ) (n : ℕ) → n ≡ position_or_len stands_in_none word → n < length word → (get_or word n 0 ≡ 64 → ⊥) → named_use_of word ≡ None
no_use word n e h other =
    let m = position_or_len (λ c. c == 64) word in
    let past = past_other word n e h other in
    let bad : is_name_byte (get_or (take m word) n 0) ≡ false = rw (get_or-take m word n 0 past) (other_at word n e h) in
    let within : n < length (take m word) = omega (arith, length-take m word) in
    rw (no_name_at (take m word) n within bad, no_name_short word n e h) (none_either (list_any (λ c. c == 64) word) None refl)

pub drop_head : (word : List ℕ) (n : ℕ) → get_or (drop n word) 0 0 ≡ get_or word n 0
drop_head word n = get_or-drop n word 0 0 ∙ (let e : n + 0 ≡ n = omega arith in ap (λ k. get_or word k 0) e)

-- as slices take it
pub at_use_taken : (word rest : List ℕ) (n : ℕ) → n ≡ position_or_len stands_in_none word → rest ≡ drop n word → 0 < length rest → get_or rest 0 0 ≡ 64 → named_use_of word ≡ at_of (take n word) (take (length rest - 1) (drop 1 rest))
at_use_taken word rest n e r some at =
    let within : n < length word = omega (arith, ap length r, length-drop n word) in
    let here : get_or word n 0 ≡ 64 = sym (ap (λ xs. get_or xs 0 0) r ∙ drop_head word n) ∙ at in
    at_use word n e within here ∙ ap (at_of (take n word)) (sym (take_rest rest 1 ∙ ap (drop 1) r ∙ drop-drop 1 n word))

pub no_use_taken : (word rest : List ℕ) (n : ℕ) → n ≡ position_or_len stands_in_none word → rest ≡ drop n word → 0 < length rest → (get_or rest 0 0 ≡ 64 → ⊥) → named_use_of word ≡ None
no_use_taken word rest n e r some other =
    let within : n < length word = omega (arith, ap length r, length-drop n word) in
    no_use word n e within (λ at. other (ap (λ xs. get_or xs 0 0) r ∙ drop_head word n ∙ at))

pub plain_use_taken : (word rest : List ℕ) (n : ℕ) → n ≡ position_or_len stands_in_none word → rest ≡ drop n word → length rest ≡ 0 → named_use_of word ≡ cond (is_name word) (Some (Plain word)) None
plain_use_taken word rest n e r none =
    let whole : length word ≤ n = omega (arith, ap length r, length-drop n word) in
    plain_use word n e whole

-- a word that begins with another byte is no number
pub no_number : (word : List ℕ) → 0 < length word → (get_or word 0 0 ≡ 45 → ⊥) → is_ascii_digit (get_or word 0 0) ≡ false → int_of word ≡ None
unfolding int_of
no_number [] some minus digit = absurd (omega arith)
no_number (c ∷ cs) some minus digit =
    let number : is_number (c ∷ cs) ≡ false = and_right _ (all_ascii_digits (c ∷ cs)) (and_left (is_ascii_digit c) (all_ascii_digits cs) digit) in
    cond-false (eqb c 45) (cond (is_number cs) (Some (signed_of true (digits_value 10 cs))) None) (cond (is_number (c ∷ cs)) (Some (signed_of false (digits_value 10 (c ∷ cs)))) None) (ne_eqb c 45 minus)
    ∙ cond-false (is_number (c ∷ cs)) (Some (signed_of false (digits_value 10 (c ∷ cs)))) None number

pub no_number_empty : int_of [] ≡ None
unfolding int_of
no_number_empty = refl

-- a word that begins with a digit or a minus sign has no name
letterless : (c : ℕ) (cs : List ℕ) → is_letter c ≡ false → (c == 64) ≡ false → named_use_of (c ∷ cs) ≡ None
unfolding is_name
letterless c cs letter at =
    let e = before_next (λ x. x == 64) c cs at in
    rw (e, letter) (none_either _ _ refl)

pub no_named : (word : List ℕ) → 0 < length word → is_letter (get_or word 0 0) ≡ false → (get_or word 0 0 == 64) ≡ false → named_use_of word ≡ None
no_named [] some letter at = absurd (omega arith)
no_named (c ∷ cs) some letter at = letterless c cs letter at
