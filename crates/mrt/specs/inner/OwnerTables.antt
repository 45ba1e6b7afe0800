-- A table of owners, one for each residue and unit.
use Rattle.std.specs.Prelude.{◌≡◌, ℕ, ◌+◌, ◌*◌, ◌<◌, ◌≤◌, Bool, not, ◌==◌, List, length}
use Rattle.machine_data.specs.declared.limits.TheConstants.{MAX_UNITS}
use Rattle.std.specs.List.{All, slice_index}
use Rattle.mrt.specs.declared.owner.TheConstants.{FREE}
use Rattle.mrt.specs.Placements.{rows_of}
use Rattle.mrt.specs.inner.Rosters.{Table}
use Rattle.mrt.specs.inner.Slots.{Owns}

-- the owner of a slot, where each residue has a row of units
abbrev pub owner_at : ℕ → List ℕ → ℕ → ℕ → ℕ
owner_at units owners unit residue = slice_index owners (residue * units + unit)

-- whether the slot has an owner
abbrev pub is_owned : ℕ → List ℕ → ℕ → ℕ → Bool
is_owned units owners unit residue = not (owner_at units owners unit residue == FREE)

-- the owners are those of the slots that the placed operations take
pub record IsOwnerTable (table : Table) (units : ℕ) (owners : List ℕ) : Type 0 where
  pub whole : length table.placed ≡ length table.operations
  pub short : length table.placed ≤ FREE
  pub few : units ≤ MAX_UNITS
  pub long : length owners ≡ table.interval * units
  pub covered : (op alternative : ℕ) → All (λ r. r.unit < units) (rows_of table.operations op alternative)
  pub owns : Owns table.interval units FREE table.operations table.placed (owner_at units owners)
