-- The alternatives that the resource-constrained lower bound takes, in text order, and the rows that they use.
use Rattle.std.specs.Prelude.{◌≡◌, ℕ, ◌==◌, List, [], length, map, filter, None}
use Rattle.std.specs.List.{flat_map, range_with_len, slice_index, slice_index_or, zip}
use Rattle.machine_data.specs.declared.alternative.Row.{Row}
use Rattle.machine_data.specs.Machines.{MachineData, IsMachine}
use Rattle.loop_data.specs.Loops.{LoopData}
use Rattle.unit_bound.specs.Units.{AreBest, IsUnitBound, by_freedom, chosen_rows, greatest_use}
use Rattle.graph.specs.Units.{first_without_table, operations_of}

-- the choices of the operations that have `n` alternatives
abbrev pub choices_among : List (List (List Row)) → List ℕ → ℕ → List ℕ
choices_among operations choices n = map (λ both. both.1) (filter (λ both. length both.0 == n) (zip operations choices))

-- the choices, given in text order, by increasing number of alternatives of their operations
abbrev pub by_freedom_too : List (List (List Row)) → List ℕ → List ℕ
by_freedom_too operations choices = flat_map (choices_among operations choices) (range_with_len 1 16)

-- a choice for each operation, in text order: the best ones, when the operations with the fewest alternatives choose first
pub record AreUnitChoices (operations : List (List (List Row))) (choices : List ℕ) : Type 0 where
  pub each : length choices ≡ length operations
  pub best : AreBest [] (by_freedom operations) (by_freedom_too operations choices)

-- the rows of the alternative that the operation of this number takes, none where there is no such alternative
abbrev pub rows_at : List (List (List Row)) → List ℕ → ℕ → List Row
rows_at operations choices number = slice_index_or (slice_index_or operations number []) (slice_index choices number) []

-- the use of the unit that the most of the chosen rows use is the resource-constrained lower bound
abbrev pub FullestUseIsBound : Type 0
FullestUseIsBound = (machine : MachineData) (loop : LoopData) (choices : List ℕ) → IsMachine machine → first_without_table machine loop ≡ None
    → AreUnitChoices (operations_of machine loop) choices
    → IsUnitBound (operations_of machine loop) (greatest_use (chosen_rows (operations_of machine loop) choices))
