-- Rows as a table at one interval reads them, and the slots that are held.
use Rattle.std.specs.Prelude.{◌≡◌, ◌≢◌, ℕ, ◌%◌, ◌^◌, ◌<◌, ◌==◌, Bool, true, List, map}
use Rattle.machine_data.specs.declared.limits.TheConstants.{MAX_UNITS}
use Rattle.std.specs.Int.{bit_at}
use Rattle.std.specs.List.{list_any}
use Rattle.machine_data.specs.declared.alternative.Row.{Row}
use Rattle.machine_data.specs.Alternative.{residue_of}
use Rattle.mrt.specs.declared.rosters.slot.Slot.{Slot}
use Rattle.mrt.specs.Placements.{OperationAlternatives, Placements}
use Rattle.mrt.specs.Taken.{Takes}

-- the row is one that a machine may have, and what is kept beside it is its offset modulo the interval and the bit of its unit
pub record IsSlot (ii : ℕ) (slot : Slot) : Type 0 where
  pub unit : slot.row.unit < MAX_UNITS
  pub turn : slot.turn ≡ slot.row.offset % ii
  pub mask : slot.mask ≡ 2 ^ slot.row.unit

-- the slot of the same row at another interval
abbrev pub slot_at : ℕ → Slot → Slot
slot_at ii slot = record slot { turn = slot.row.offset % ii }

-- the rows of slots
abbrev pub rows_in : List Slot → List Row
rows_in slots = map (λ slot. slot.row) slots

-- one of the rows is of the unit
abbrev pub needs_unit : ℕ → List Row → Bool
needs_unit unit rows = list_any (λ row. unit == row.unit) rows

-- the bits that are set are those of the units of the rows
abbrev pub HasUnits : ℕ → List Row → Type 0
HasUnits bits rows = (unit : ℕ) → (bit_at bits unit == 1) ≡ needs_unit unit rows

-- some row, issued at the time, takes a slot that is held
abbrev pub meets_held : ℕ → (ℕ → ℕ → Bool) → List Row → ℕ → Bool
meets_held ii held rows time = list_any (λ row. held row.unit (residue_of ii row time)) rows

-- of the units below a number, exactly the slots that some operation takes are held
pub record Occupies (ii units : ℕ) (operations : OperationAlternatives) (placed : Placements) (held : ℕ → ℕ → Bool) : Type 0 where
  pub marked : (unit residue op : ℕ) → unit < units → residue < ii → Takes ii operations placed unit residue op → held unit residue ≡ true
  pub owed : (unit residue : ℕ) → unit < units → residue < ii → held unit residue ≡ true → (op : ℕ) × Takes ii operations placed unit residue op

-- the owner of a slot is the operation that takes it, or `free` where none does
pub record Owns (ii units free : ℕ) (operations : OperationAlternatives) (placed : Placements) (owner : ℕ → ℕ → ℕ) : Type 0 where
  pub kept : (unit residue op : ℕ) → unit < units → residue < ii → Takes ii operations placed unit residue op → owner unit residue ≡ op
  pub owed : (unit residue : ℕ) → unit < units → residue < ii → owner unit residue ≢ free → Takes ii operations placed unit residue (owner unit residue)
