-- How a row of an operation takes the slot of a row before it, said of the placed operations.
use Rattle.std.specs.Prelude.{◌≡◌, ◌⊎◌, ℕ, ◌<◌, true, List, Some, slice_get, take}
use Rattle.std.specs.List.{list_any}
use Rattle.machine_data.specs.declared.alternative.Row.{Row}
use Rattle.machine_data.specs.Alternative.{residue_of, rows_meet}
use Rattle.mrt.specs.Placements.{OperationAlternatives, Placements, Holds}
use Rattle.schedules.specs.declared.breach.Breach.{Breach}
use Rattle.schedules.specs.declared.breach.Breach.TheVariants.{Slot}

-- row i of these, with which an operation is issued at the time, takes the slot of a row of `earlier`: a placed operation, or the
-- operation itself where that row comes before row i
pub record IsTaken (ii : ℕ) (operations : OperationAlternatives) (placed : Placements) (rows : List Row) (op time i earlier : ℕ) : Type 0 where
  pub row : Row
  pub is_row : slice_get rows i ≡ Some row
  pub how : Holds ii operations placed row time earlier ⊎ ((earlier ≡ op) × (list_any (λ s. rows_meet ii row 0 s 0) (take i rows) ≡ true))

-- the breach names the first of the rows whose slot is taken
pub record IsFirstTaken (ii : ℕ) (operations : OperationAlternatives) (placed : Placements) (rows : List Row) (op time : ℕ) (breach : Breach) : Type 0 where
  pub i : ℕ
  pub earlier : ℕ
  pub taken : IsTaken ii operations placed rows op time i earlier
  pub first : (k holder : ℕ) → k < i → IsTaken ii operations placed rows op time k holder → ⊥
  pub named : breach ≡ Slot earlier op taken.row.unit (residue_of ii taken.row time)
