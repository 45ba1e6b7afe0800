-- One word of units for each residue.
use Rattle.std.specs.Prelude.{◌≡◌, ℕ, ◌+◌, ◌<◌, ◌≤◌, Bool, ◌==◌, List, length}
use Rattle.std.specs.Int.{bit_at}
use Rattle.std.specs.List.{slice_index}

-- whether the bit of the unit is set in the word at a place
abbrev pub is_held : List ℕ → ℕ → ℕ → Bool
is_held words unit place = bit_at (slice_index words place) unit == 1

-- the words past the interval repeat the first ones
abbrev pub Repeats : ℕ → List ℕ → Type 0
Repeats ii words = (place : ℕ) → place + ii < length words → slice_index words (place + ii) ≡ slice_index words place

-- there is a word for each residue, and from an interval of 8 on seven more: the first ones again
pub record AreMasks (ii : ℕ) (words : List ℕ) : Type 0 where
  pub short : ii < 8 → length words ≡ ii
  pub spare : 8 ≤ ii → length words ≡ ii + 7
  pub repeats : Repeats ii words
