-- How many rows use each unit, told of all units at once.
use Rattle.std.specs.Prelude.{◌≡◌, ℕ, ◌+◌, ◌<◌, List, length, slice_index}
use Rattle.machine_data.specs.declared.alternative.Row.{Row}
use Rattle.unit_bound.specs.Units.{use_of}
use Rattle.outcome_text.specs.declared.units.TheConstants.{UNITS}

-- the uses by these rows are added to those before
pub record IsCounted (rows : List Row) (old new : List ℕ) : Type 0 where
  pub each : length new ≡ length old
  pub counted : (unit : ℕ) → unit < length old → slice_index new unit ≡ slice_index old unit + use_of rows unit

-- the counts are those of these rows, for each unit that a row could name
pub record AreUses (rows : List Row) (counts : List ℕ) : Type 0 where
  pub each : length counts ≡ UNITS
  pub counted : (unit : ℕ) → unit < UNITS → slice_index counts unit ≡ use_of rows unit
