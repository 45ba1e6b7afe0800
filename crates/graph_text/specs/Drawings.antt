-- The graphs of loops, each with a circuit that needs the lower bound of its interval.
use Rattle.std.specs.Prelude.{ℕ, ◌-◌, List, [], ◌∷◌}
use Rattle.machine_data.specs.Machines.{MachineData}
use Rattle.loop_data.specs.Loops.{LoopData}
use Rattle.edges.specs.Edges.{EdgeData}
use Rattle.edges.specs.Graphs.{GraphData}
use Rattle.walks.specs.Walks.{FitsCircuits}
use Rattle.circuits.specs.Circuits.{IsCircuitAbove}
use Rattle.lower_bounds.specs.declared.measuring.LowerBounds.{LowerBounds}
use Rattle.lower_bounds.specs.Bounds.{IsMeasured}
use Rattle.graph_text.specs.Dot.{IsDotText}
use Rattle.lower_bounds.specs.Texts.{AreTexts}

-- a circuit that needs a bound: it does not fit an interval that is one cycle shorter. It is empty where all circuits fit that
abbrev pub IsCritical : List EdgeData → ℕ → List EdgeData → Type 0
IsCritical edges bound [] = FitsCircuits edges (bound - 1)
IsCritical edges bound (e ∷ circuit) = IsCircuitAbove edges (bound - 1) (e ∷ circuit)

-- the graph of a loop on a machine, where such a circuit of the recurrence-constrained bound is bold
pub record IsDotPart (machine : MachineData) (loop : LoopData) (text : List ℕ) : Type 0 where
  pub bounds : LowerBounds
  pub graph : GraphData
  pub measured : IsMeasured machine loop bounds graph
  pub circuit : List EdgeData
  pub critical : IsCritical graph.edges bounds.recurrences circuit
  pub is_text : IsDotText loop bounds graph circuit text

-- the graphs of loops, one after another
abbrev pub AreDotParts : MachineData → List LoopData → List ℕ → Type 0
AreDotParts machine loops text = AreTexts (IsDotPart machine) (λ loop part. part) loops text
