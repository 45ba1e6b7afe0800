-- Reservation tables: the rows of an alternative, and the slots of the modulo reservation table that they take.
use Rattle.std.specs.Prelude.{◌≢◌, ℕ, ◌+◌, ◌%◌, ◌<◌, ◌≤◌, ◌==◌, ◌&&◌, ◌||◌, Bool, false, List, [], ◌∷◌, length}
use Rattle.machine_data.specs.declared.limits.TheConstants.{MAX_OPERATION_ALTERNATIVES, MAX_ROWS, MAX_UNITS}
use Rattle.std.specs.List.{All, AllPairs, list_any}
use Rattle.machine_data.specs.declared.alternative.Row.{Row}

-- 1 to 16 different rows, of units below 64 and at offsets of 0 to 63 cycles
pub record IsAlternative (rows : List Row) : Type 0 where
  pub some : 0 < length rows
  pub few : length rows ≤ MAX_ROWS
  pub units : All (λ r. r.unit < MAX_UNITS) rows
  pub offsets : All (λ r. r.offset < 64) rows
  pub different : AllPairs (λ r s. r ≢ s) rows

-- 1 to 16 alternatives
pub record AreAlternatives (alternatives : List (List Row)) : Type 0 where
  pub some : 0 < length alternatives
  pub few : length alternatives ≤ MAX_OPERATION_ALTERNATIVES
  pub each : All IsAlternative alternatives

-- the residue, which is the row of the modulo reservation table, that a row takes at an interval,
-- for an operation issued at a time
abbrev pub residue_of : ℕ → Row → ℕ → ℕ
residue_of ii row time = (time + row.offset) % ii

-- at an interval, the first row for an operation issued at one time, and the second for one issued at another, take one slot
abbrev pub rows_meet : ℕ → Row → ℕ → Row → ℕ → Bool
rows_meet ii row time other at = (row.unit == other.unit) && (residue_of ii row time == residue_of ii other at)

-- some row of the one alternative, issued at the one time, meets some row of the other
abbrev pub alternatives_meet : ℕ → List Row → ℕ → List Row → ℕ → Bool
alternatives_meet ii rows time others at = list_any (λ r. list_any (λ s. rows_meet ii r time s at) others) rows

-- two rows of one alternative meet at an interval, so no operation can be issued by it
abbrev pub collides : ℕ → List Row → Bool
collides ii [] = false
collides ii (row ∷ rows) = list_any (λ s. rows_meet ii row 0 s 0) rows || collides ii rows
