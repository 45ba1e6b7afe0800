-- What counters of the uses of units tell of the choices made so far.
use Rattle.std.specs.Prelude.{ℕ, ◌++◌, List, []}
use Rattle.std.specs.List.{slice_index_or}
use Rattle.machine_data.specs.declared.alternative.Row.{Row}
use Rattle.unit_bound.specs.Units.{AreBest, IsBest, chosen_rows}
use Rattle.unit_bound.specs.Uses.{Tallies}

-- the choice is the best one after the rows taken, and the counters are those with its rows
pub record TakesChoice (taken : List Row) (alternatives : List (List Row)) (choice : ℕ) (counts : List ℕ) (greatest : ℕ) : Type 0 where
  pub best : IsBest taken alternatives choice
  pub tallies : Tallies (taken ++ slice_index_or alternatives choice []) counts greatest

-- the choices are the best ones of these operations in this order, and the counters are those of their rows
pub record HasChosen (operations : List (List (List Row))) (choices : List ℕ) (counts : List ℕ) (greatest : ℕ) : Type 0 where
  pub best : AreBest [] operations choices
  pub tallies : Tallies (chosen_rows operations choices) counts greatest
