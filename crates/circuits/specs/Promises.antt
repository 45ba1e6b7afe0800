-- What circuits tell of the recurrence-constrained lower bound.
use Rattle.std.specs.Prelude.{ℕ, ◌-◌, ◌<◌, List}
use Rattle.edges.specs.Edges.{EdgeData}
use Rattle.walks.specs.Walks.{FitsCircuits, IsRecurrenceBound}
use Rattle.circuits.specs.Circuits.{IsCircuitAbove}

-- a circuit that does not fit an interval tells that the bound is longer
abbrev pub CircuitsBoundIntervals : Type 0
CircuitsBoundIntervals = (edges : List EdgeData) (bound ii : ℕ) (walk : List EdgeData) → IsRecurrenceBound edges bound → IsCircuitAbove edges ii walk → ii < bound

-- at one cycle below a bound that is not 1, some circuit does not fit
abbrev pub BoundsHaveCircuits : Type 0
BoundsHaveCircuits = (edges : List EdgeData) (bound : ℕ) → IsRecurrenceBound edges bound → 1 < bound → ¬ FitsCircuits edges (bound - 1)
