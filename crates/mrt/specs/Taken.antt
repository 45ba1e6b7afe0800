-- Which operation takes which slot.
use Rattle.std.specs.Prelude.{◌≡◌, ℕ, ◌==◌, ◌&&◌, Bool, true, List, Some}
use Rattle.std.specs.List.{list_any}
use Rattle.machine_data.specs.declared.alternative.Row.{Row}
use Rattle.machine_data.specs.Alternative.{residue_of}
use Rattle.mrt.specs.Placements.{OperationAlternatives, Placements, Placement, placement_of, rows_of}

-- one of the rows, issued at the time, takes this slot
abbrev pub takes : ℕ → List Row → ℕ → ℕ → ℕ → Bool
takes ii rows time unit residue = list_any (λ row. (unit == row.unit) && (residue == residue_of ii row time)) rows

-- the operation is placed, and takes the slot
pub record Takes (ii : ℕ) (operations : OperationAlternatives) (placed : Placements) (unit residue op : ℕ) : Type 0 where
  pub at : Placement
  pub is_placed : placement_of placed op ≡ Some at
  pub takes : takes ii (rows_of operations op at.alternative) at.time unit residue ≡ true

-- no two operations take one slot
abbrev pub AreApart : ℕ → OperationAlternatives → Placements → Type 0
AreApart ii operations placed = (unit residue op other : ℕ) → Takes ii operations placed unit residue op → Takes ii operations placed unit residue other → op ≡ other
