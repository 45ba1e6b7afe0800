-- The lower bounds of the intervals of loops, and their lines.
use Rattle.std.specs.Prelude.{ℕ, codes, max, List, ◌++◌, length}
use Rattle.machine_data.specs.Machines.{MachineData}
use Rattle.loop_data.specs.Loops.{LoopData}
use Rattle.edges.specs.Graphs.{GraphData}
use Rattle.graph.specs.Graphs.{IsGraphOf}
use Rattle.unit_bound.specs.Units.{IsUnitBound}
use Rattle.graph.specs.Units.{operations_of}
use Rattle.walks.specs.Walks.{IsRecurrenceBound}
use Rattle.lower_bounds.specs.Texts.{AreTexts}
use Rattle.lower_bounds.specs.declared.measuring.LowerBounds.{LowerBounds}
use Rattle.writing.specs.Words.{told}

-- the dependences of a loop on a machine, and its lower bounds: by the units of the machine, and by these dependences
pub record IsMeasured (machine : MachineData) (loop : LoopData) (bounds : LowerBounds) (graph : GraphData) : Type 0 where
  pub units : IsUnitBound (operations_of machine loop) bounds.resources
  pub is_graph : IsGraphOf machine loop graph
  pub recurrences : IsRecurrenceBound graph.edges bounds.recurrences

-- the resource-constrained bound of a loop on a machine, and the recurrence-constrained bound of its dependences
abbrev pub AreBounds : MachineData → LoopData → LowerBounds → Type 0
AreBounds machine loop bounds = (graph : GraphData) × IsMeasured machine loop bounds graph

-- the lower bound of the interval is the greater of the two bounds
abbrev pub mii_of : LowerBounds → ℕ
mii_of bounds = max bounds.resources bounds.recurrences

-- ` res R rec C mii M`
abbrev pub bounds_told : LowerBounds → List ℕ
bounds_told bounds = (told (codes " res ") bounds.resources ++ told (codes " rec ") bounds.recurrences) ++ told (codes " mii ") (mii_of bounds)

-- `loop NAME ops O res R rec C mii M`, with a line feed
abbrev pub bounds_line : LoopData → LowerBounds → List ℕ
bounds_line loop bounds = (((codes "loop " ++ loop.name) ++ told (codes " ops ") (length loop.statements)) ++ bounds_told bounds) ++ codes "\n"

-- a line for each loop, with its bounds
abbrev pub IsLines : MachineData → List LoopData → List ℕ → Type 0
IsLines machine loops text = AreTexts (AreBounds machine) bounds_line loops text
