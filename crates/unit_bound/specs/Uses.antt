-- Counters of the uses of units, and what they tell of the choices made so far.
use Rattle.std.specs.Prelude.{◌≡◌, ℕ, ◌<◌, ◌≤◌, List, [], ◌++◌, length, slice_index}
use Rattle.machine_data.specs.declared.limits.TheConstants.{MAX_UNITS}
use Rattle.std.specs.List.{slice_index_or, All}
use Rattle.machine_data.specs.declared.alternative.Row.{Row}
use Rattle.unit_bound.specs.Units.{use_of, greatest_use, IsBest, AreBest, chosen_rows}
use Rattle.edges.specs.Schedules.{IsPlan, KeepsUnits}

-- no unit's counter is above the bound
abbrev pub AtMost : ℕ → List ℕ → Type 0
AtMost bound counts = (unit : ℕ) → slice_index counts unit ≤ bound

-- the counters, one for each of 64 units, and the greatest use are those of the rows taken
pub record Tallies (taken : List Row) (counts : List ℕ) (greatest : ℕ) : Type 0 where
  pub all : length counts ≡ 64
  pub each : (unit : ℕ) → unit < MAX_UNITS → slice_index counts unit ≡ use_of taken unit
  pub most : greatest ≡ greatest_use taken

-- the counters are those of the rows taken and of the best alternative after them
pub record TakesBest (taken : List Row) (alternatives : List (List Row)) (counts : List ℕ) (greatest : ℕ) : Type 0 where
  pub choice : ℕ
  pub best : IsBest taken alternatives choice
  pub tallies : Tallies (taken ++ slice_index_or alternatives choice []) counts greatest

-- the counters are those of the rows of these operations, each by its best alternative
pub record CountsRows (operations : List (List (List Row))) (counts : List ℕ) (greatest : ℕ) : Type 0 where
  pub choices : List ℕ
  pub best : AreBest [] operations choices
  pub tallies : Tallies (chosen_rows operations choices) counts greatest

-- where every operation has one alternative, no times keep the units at an interval below the bound
abbrev pub IsBelowLawful : List (List (List Row)) → ℕ → Type 0
IsBelowLawful operations bound = All (λ alternatives. length alternatives ≡ 1) operations
    → (ii : ℕ) (times choices : List ℕ) → 0 < ii → IsPlan operations times choices → KeepsUnits ii operations times choices
    → bound ≤ ii
