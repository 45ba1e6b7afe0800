-- A table of bits, one for each unit and residue.
use Rattle.std.specs.Prelude.{◌≡◌, ℕ, Bool, length}
use Rattle.mrt.specs.inner.Rosters.{Table}
use Rattle.mrt.specs.inner.Slots.{Occupies}
use Rattle.mrt.specs.Taken.{AreApart}

-- the bits are those of the slots that the placed operations take
pub record IsBitTable (table : Table) (held : ℕ → ℕ → Bool) : Type 0 where
  pub whole : length table.placed ≡ length table.operations
  pub apart : AreApart table.interval table.operations table.placed
  pub occupied : Occupies table.interval 64 table.operations table.placed held
