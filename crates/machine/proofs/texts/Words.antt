-- The words of a row's text.
use Rattle.std.proofs.Common.{◌≡◌, ℕ, ◌<◌, ◌≤◌, Bool, true, false, ◌==◌, ◌&&◌, nat_lt, cond, List, [], ◌∷◌, length, Option, Some, None, Bor, refl, inl, inr, arith}
use Rattle.std.specs.List.{list_any, position_or_len, before_first, after_first}
use Rattle.std.specs.Str.{all_ascii_digits}
use Rattle.std.specs.Str.Parse.{digits_value}
use Rattle.std.proofs.lemmas.Bool.{cases_Bool}
use Rattle.std.proofs.lemmas.Str.Pattern.{IsSplitOnceResult, split_once_first}
use Rattle.toml.specs.Data.{Data, as_str}
use Rattle.machine.specs.MachineText.{is_unit_name, row_words, words_in}
use Rattle.machine.proofs.checks.Faults.{string-at}

pub any-found : {A : Type 0} (p : A → Bool) (xs : List A) → position_or_len p xs < length xs → list_any p xs ≡ true
any-found p [] h = absurd (omega arith)
any-found p (x ∷ xs) h = elim (cases_Bool (p x)) [
  | inl e ↦ rw e
  | inr e ↦ rw e (any-found p xs (let k = rw e at h in omega (arith, k)))
]

pub any-not_found : {A : Type 0} (p : A → Bool) (xs : List A) → length xs ≤ position_or_len p xs → list_any p xs ≡ false
any-not_found p [] h = refl
any-not_found p (x ∷ xs) h = elim (cases_Bool (p x)) [
  | inl e ↦ absurd (let k = rw e at h in omega (arith, k))
  | inr e ↦ rw e (any-not_found p xs (let k = rw e at h in omega (arith, k)))
]

row_words-is : (text unit digits : List ℕ) → position_or_len (λ c. c == 64) text < length text → unit ≡ before_first (λ c. c == 64) text → digits ≡ after_first (λ c. c == 64) text
    → row_words text ≡ cond (is_unit_name unit && nat_lt 0 (length digits) && all_ascii_digits digits) (Some (unit, digits_value 10 digits)) None
unfolding row_words
row_words-is text unit digits found u v = rw (any-found (λ c. c == 64) text found, ← u, ← v)

module _ (d : Data) (text : List ℕ) (is : Some text ≡ as_str d) where
  pub words-unsplit : (r : Option (Bor (List ℕ) × Bor (List ℕ))) → IsSplitOnceResult 64 text r → r ≡ None → None ≡ words_in d
  unfolding row_words
  words-unsplit r h none =
      let split = rw none at (split_once_first 64 text r h (omega arith)) in
      rw (string-at d text is) (rw (any-not_found (λ c. c == 64) text (omega arith)))

  module _ (unit digits : Bor (List ℕ)) (r : Option (Bor (List ℕ) × Bor (List ℕ))) (cut : IsSplitOnceResult 64 text r) (some : r ≡ Some (unit, digits)) where
    pub words-fine : is_unit_name unit.now ≡ true → nat_lt 0 (length digits.now) && all_ascii_digits digits.now ≡ true → Some (unit.now, digits_value 10 digits.now) ≡ words_in d
    unfolding row_words
    words-fine named numbered =
        let split = rw some at (split_once_first 64 text r cut (omega arith)) in
        rw (string-at d text is, row_words-is text unit.now digits.now split.0 split.1 split.2) (rw (named, numbered))

    pub words-misnamed : is_unit_name unit.now ≡ false → None ≡ words_in d
    unfolding row_words
    words-misnamed named =
        let split = rw some at (split_once_first 64 text r cut (omega arith)) in
        rw (string-at d text is, row_words-is text unit.now digits.now split.0 split.1 split.2) (rw named)

    pub words-unnumbered : nat_lt 0 (length digits.now) && all_ascii_digits digits.now ≡ false → None ≡ words_in d
    unfolding row_words
    words-unnumbered numbered =
        let split = rw some at (split_once_first 64 text r cut (omega arith)) in
        rw (string-at d text is, row_words-is text unit.now digits.now split.0 split.1 split.2) (elim (cases_Bool (is_unit_name unit.now)) [
          | inl named ↦ rw (named, numbered)
          | inr named ↦ rw named
        ])
