-- The checks of a row of an alternative.
use Rattle.std.proofs.Common.{◌≡◌, ℕ, ◌<◌, ◌≤◌, Bool, true, false, not, ltb, List, [], length, Some, None, codes, position, refl, inl, inr, arith, le-ltb, lt-ltb}
use Rattle.std.specs.List.{list_any, position_or_len}
use Rattle.std.proofs.lemmas.Bool.{cases_lt, and_right}
use Rattle.toml.specs.Data.{Data}
use Rattle.machine_data.specs.declared.alternative.Row.{Row}
use Rattle.reader_faults.specs.declared.machine.MachineFault.TheVariants.{WrongType, UnknownUnit, RepeatedRow, Limit}
use Rattle.machine_data.specs.Opcodes.{same_word}
use Rattle.machine.specs.inner.Reads.{first_fault}
use Rattle.machine.specs.MachineText.{within, words_in, row_in, same_row, row_faults}
use Rattle.machine.proofs.texts.Words.{any-found, any-not_found}

pub any-from_None : {A : Type 0} (p : A → Bool) (xs : List A) → position p xs ≡ None → list_any p xs ≡ false
any-from_None p xs h = elim (cases_lt (position_or_len p xs) (length xs)) [
  | inl below ↦ let k = rw (lt-ltb _ _ below) at h in cc
  | inr above ↦ any-not_found p xs above
]

pub any-from_Some : {A : Type 0} (p : A → Bool) (xs : List A) (k : ℕ) → position p xs ≡ Some k → list_any p xs ≡ true
any-from_Some p xs k h = elim (cases_lt (position_or_len p xs) (length xs)) [
  | inl below ↦ any-found p xs below
  | inr above ↦ let k = rw (le-ltb _ _ above) at h in cc
]

within-63 : (n : ℕ) → n ≤ 63 → within 0 63 n ≡ true
within-63 n h = rw (le-ltb n 0 (omega arith), le-ltb 63 n h)

beyond-63 : (n : ℕ) → 63 < n → within 0 63 n ≡ false
beyond-63 n h = rw (lt-ltb 63 n h, and_right (not (ltb n 0)) false refl)

module _ (path : List ℕ) (units : List (List ℕ)) (before : List Row) (d : Data) where
  pub row-wrong_type : None ≡ words_in d → first_fault (row_faults path units before d) ≡ Some (WrongType path)
  unfolding row_faults
  row-wrong_type is = rw (← is)

  module _ (unit : List ℕ) (offset : ℕ) (is : Some (unit, offset) ≡ words_in d) where
    pub row-limit : 63 < offset → first_fault (row_faults path units before d) ≡ Some (Limit (codes "offset"))
    unfolding row_faults
    row-limit h = rw (← is) (rw (beyond-63 offset h))

    pub row-unknown : offset ≤ 63 → position (same_word unit) units ≡ None → first_fault (row_faults path units before d) ≡ Some (UnknownUnit unit)
    unfolding row_faults
    row-unknown h none = rw (← is) (rw (within-63 offset h, any-from_None (same_word unit) units none))

    pub row-is : (k : ℕ) → position (same_word unit) units ≡ Some k → record { unit = k; offset = offset } ≡ row_in units d
    row-is k found = rw (← is) (rw found)

    module _ (k : ℕ) (small : offset ≤ 63) (found : position (same_word unit) units ≡ Some k) where
      pub row-repeated : list_any (λ other. same_row other (record { unit = k; offset = offset })) before ≡ true → first_fault (row_faults path units before d) ≡ Some (RepeatedRow path)
      unfolding row_faults
      row-repeated h = rw (← is) (rw (within-63 offset small, any-from_Some (same_word unit) units k found, found) (rw h))

      pub row-fine : list_any (λ other. same_row other (record { unit = k; offset = offset })) before ≡ false → row_faults path units before d ≡ []
      unfolding row_faults
      row-fine h = rw (← is) (rw (within-63 offset small, any-from_Some (same_word unit) units k found, found) (rw h))
