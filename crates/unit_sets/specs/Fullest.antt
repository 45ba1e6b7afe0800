-- The fullest of the sets of units that are looked at. Such a set is a word: its bit u tells whether unit u is one of the set.
use Rattle.std.specs.Prelude.{◌≡◌, ℕ, ◌+◌, ◌-◌, ◌*◌, ◌/◌, ◌^◌, ◌<◌, ◌≤◌, ◌==◌, Bool, true, zero, suc, List, [], ◌∷◌, ◌++◌, length, filter, map, take, drop, bit_or}
use Rattle.std.specs.Int.{bit_at}
use Rattle.std.specs.List.{All, Contains, flat_map, fold, range_with_len, slice_index_or}
use Rattle.machine_data.specs.Alternative.{AreAlternatives}
use Rattle.machine_data.specs.declared.alternative.Row.{Row}
use Rattle.machine_data.specs.declared.limits.TheConstants.{MAX_UNITS}
use Rattle.edges.specs.Edges.{EdgeData}
use Rattle.edges.specs.Schedules.{IsLawfulSchedule}
use Rattle.unit_sets.specs.declared.fullest.UnitSet.{UnitSet}
use Rattle.unit_sets.specs.declared.TheConstants.{PARTS, ROUNDS}
use Rattle.unit_sets.specs.Sets.{is_in, set_rows}

-- whether a unit is one of the set
abbrev pub has_unit : ℕ → ℕ → Bool
has_unit set unit = bit_at set unit == 1

-- the units of the set, in increasing order
unfoldable pub units_in : ℕ → List ℕ
units_in set = filter (has_unit set) (range_with_len 0 MAX_UNITS)

-- the set with the unit of a row
abbrev pub with_row : ℕ → Row → ℕ
with_row set row = bit_or set (2 ^ row.unit)

-- the units of rows
abbrev pub units_of : List Row → ℕ
units_of rows = fold with_row 0 rows

-- the row at a place of an alternative, if it has so many
abbrev pub row_at : ℕ → List Row → List Row
row_at place rows = take 1 (drop place rows)

-- all rows of all alternatives
abbrev pub all_rows : List (List Row) → List Row
all_rows alternatives = flat_map (λ rows. rows) alternatives

-- the sets of an operation: for each place that its first alternative has a row at, the units of the rows that its alternatives
-- have there; and the units of all rows of its alternatives
abbrev pub sets_of : List (List Row) → List ℕ
sets_of alternatives =
    map (λ place. units_of (flat_map (row_at place) alternatives)) (range_with_len 0 (length (slice_index_or alternatives 0 [])))
    ++ (units_of (all_rows alternatives) ∷ [])

-- the sets of all operations, and the units of all their rows
abbrev pub first_sets : List (List (List Row)) → List ℕ
first_sets operations = flat_map sets_of operations ++ (units_of (flat_map all_rows operations) ∷ [])

-- how many rows of its units the operations have at least, for each of the units, in parts of a row
abbrev pub fill_of : List (List (List Row)) → ℕ → ℕ
fill_of operations set = (set_rows (units_in set) operations * PARTS) / length (units_in set)

-- of two sets the one is not less full; it is not larger than one as full, nor, as a number, above one that is as full and as large
pub record Leads (operations : List (List (List Row))) (set other : ℕ) : Type 0 where
  pub full : fill_of operations other ≤ fill_of operations set
  pub small : fill_of operations other ≡ fill_of operations set → length (units_in set) ≤ length (units_in other)
  pub first : fill_of operations other ≡ fill_of operations set → length (units_in set) ≡ length (units_in other) → set ≤ other

-- of the unions of a set with the first sets the one that leads
pub record IsFullestWith (operations : List (List (List Row))) (before set : ℕ) : Type 0 where
  pub added : ℕ
  pub is_first : Contains (first_sets operations) added
  pub is_union : set ≡ bit_or before added
  pub leads : (other : ℕ) → Contains (first_sets operations) other → Leads operations set (bit_or before other)

-- what is reached after so many rounds from the empty set, each of which takes the fullest union
abbrev pub IsReached : ℕ → List (List (List Row)) → ℕ → Type 0
IsReached zero operations set = set ≡ 0
IsReached (suc rounds) operations set = (before : ℕ) × IsReached rounds operations before × IsFullestWith operations before set

-- the least interval that has so many slots of the units of the set as the operations have rows of them at least
abbrev pub need_of : List (List (List Row)) → ℕ → ℕ
need_of operations set = (set_rows (units_in set) operations + (length (units_in set) - 1)) / length (units_in set)

-- the set that is reached after all rounds, with the number of its units, the rows of them that the operations have at least, and what it needs
pub record IsFullest (operations : List (List (List Row))) (set : UnitSet) : Type 0 where
  pub reached : IsReached ROUNDS operations set.units
  pub is_size : set.size ≡ length (units_in set.units)
  pub is_rows : set.rows ≡ set_rows (units_in set.units) operations
  pub is_need : set.need ≡ need_of operations set.units

-- none of the first sets needs a longer interval than the fullest one, and no lawful schedule of them has a shorter one
pub record FullestIsBound : Type 0 where
  pub greatest : (operations : List (List (List Row))) (set : UnitSet) (other : ℕ) → IsFullest operations set → Contains (first_sets operations) other
      → need_of operations other ≤ set.need
  pub bound : (operations : List (List (List Row))) (set : UnitSet) (edges : List EdgeData) (ii : ℕ) (times choices : List ℕ) → IsFullest operations set → 0 < ii
      → IsLawfulSchedule ii operations edges times choices → set.need ≤ ii

-- a row of an alternative of some operation is of the unit
abbrev pub IsUsed : List (List (List Row)) → ℕ → Type 0
IsUsed operations unit = Contains (map (λ (r : Row). r.unit) (flat_map all_rows operations)) unit

-- where there are operations, the fullest set has units, and all of them are used
abbrev pub FullestIsUsed : Type 0
FullestIsUsed = (operations : List (List (List Row))) (set : UnitSet) → All AreAlternatives operations → 0 < length operations → IsFullest operations set
    → (0 < length (units_in set.units)) × ((unit : ℕ) → is_in (units_in set.units) unit ≡ true → IsUsed operations unit)
