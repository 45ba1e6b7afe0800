-- Timelines: one of `words` words for each of 64 units.
use Rattle.std.specs.Prelude.{◌≡◌, ℕ, ◌+◌, ◌*◌, ◌/◌, ◌%◌, ◌<◌, ◌≤◌, Bool, false, ◌==◌, List, length}
use Rattle.machine_data.specs.declared.limits.TheConstants.{MAX_UNITS}
use Rattle.std.specs.Int.{bit_at}
use Rattle.std.specs.List.{slice_index}

-- whether the bit of a place is set in the timeline of a unit, where each word has 64 places
abbrev pub is_set : ℕ → List ℕ → ℕ → ℕ → Bool
is_set words times unit place = bit_at (slice_index times (unit * words + place / 64)) (place % 64) == 1

-- the timelines tell of each unit and time whether the slot is held, and go on for 64 cycles from each residue
abbrev pub Tell : ℕ → ℕ → List ℕ → (ℕ → ℕ → Bool) → Type 0
Tell ii words times held = (unit place : ℕ) → unit < MAX_UNITS → place < ii + 64 → is_set words times unit place ≡ held unit (place % ii)

-- whether the bit of a residue is set in the word of a unit
abbrev pub is_on : List ℕ → ℕ → ℕ → Bool
is_on rounds unit residue = bit_at (slice_index rounds unit) residue == 1

-- the words tell of each unit and residue whether the slot is held, and have no other bit
pub record TellOnce (ii : ℕ) (rounds : List ℕ) (held : ℕ → ℕ → Bool) : Type 0 where
  pub tell : (unit residue : ℕ) → unit < MAX_UNITS → residue < ii → is_on rounds unit residue ≡ held unit residue
  pub clear : (unit place : ℕ) → unit < MAX_UNITS → ii ≤ place → place < 64 → is_on rounds unit place ≡ false

-- below an interval of 64 each unit has one word, with a bit for each residue and no other, and from it on a timeline, which
-- goes on for 64 cycles from each residue, and has no word more than that takes
pub record AreTimes (ii words : ℕ) (times : List ℕ) : Type 0 where
  pub all : length times ≡ 64 * words
  pub few : words ≤ 257
  pub one : ii < 64 → words ≡ 1
  pub reach : 64 ≤ ii → ii + 64 ≤ 64 * words
  pub least : (other : ℕ) → 64 ≤ ii → ii + 64 ≤ 64 * other → words ≤ other
  pub once : ii < 64 → TellOnce ii times (is_set words times)
  pub tell : 64 ≤ ii → Tell ii words times (is_set words times)
