-- The lines of a circuit that needs the recurrence-constrained lower bound.
use Rattle.std.specs.Prelude.{◌≡◌, ℕ, pos, ◌-◌, ◌*◌, ◌≤ℤ◌, ◌<ℤ◌, List, ◌∷◌, ◌++◌}
use Rattle.edges.specs.Edges.{EdgeData}
use Rattle.walks.specs.Walks.{IsRecurrenceBound, delay_of, distance_of}
use Rattle.graph_text.specs.CircuitLines.{circuit_line}
use Rattle.graph_text.specs.Drawings.{IsCritical}
use Rattle.graph_text.specs.Edges.{edge_line}
use Rattle.graph_text.specs.Kinds.{IsOfKind}
use Rattle.lower_bounds.specs.Texts.{AreTexts}
use Rattle.loop_schedules.specs.Problems.{ProblemData}

-- a circuit that needs the recurrence-constrained lower bound: the line of its sums, and a line for each of its edges, in its
-- order, with its kind
pub record IsCircuitText (problem : ProblemData) (text : List ℕ) : Type 0 where
  pub circuit : List EdgeData
  pub critical : IsCritical problem.graph.edges problem.recurrences circuit
  pub edge_lines : List ℕ
  pub are_edge_lines : AreTexts (IsOfKind problem.loop problem.graph.latencies) (edge_line problem.loop) circuit edge_lines
  pub is_text : text ≡ circuit_line circuit problem.recurrences ++ edge_lines

-- the least interval that such a circuit fits is the bound: its delay over its distance, rounded up
abbrev pub CircuitsNeedBounds : Type 0
CircuitsNeedBounds = (edges : List EdgeData) (bound : ℕ) (e : EdgeData) (circuit : List EdgeData) → IsRecurrenceBound edges bound → IsCritical edges bound (e ∷ circuit)
    → (pos ((bound - 1) * distance_of (e ∷ circuit)) <ℤ delay_of (e ∷ circuit)) × (delay_of (e ∷ circuit) ≤ℤ pos (bound * distance_of (e ∷ circuit)))
