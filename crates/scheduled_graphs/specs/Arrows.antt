-- The lines of edges.
use Rattle.std.specs.Prelude.{ℕ, List, ◌++◌}
use Rattle.edges.specs.Edges.{EdgeData}
use Rattle.graph_marks.specs.Arrows.{IsRed, arrow_end}
use Rattle.graph_text.specs.Dot.{arrow_start}
use Rattle.graph_text.specs.Kinds.{IsOfKind, kind_word}
use Rattle.lower_bounds.specs.Texts.{AreTexts}
use Rattle.loop_schedules.specs.Problems.{ProblemData}
use Rattle.scheduled_graphs.specs.declared.arrows.Stroke.{Stroke}

-- `  P -> Q [label="KIND D @N"`, what makes the edge dashed or red, and `]`, with a line feed
abbrev pub arrow_line : EdgeData → Stroke → List ℕ
arrow_line e stroke = (arrow_start e ++ kind_word stroke.kind) ++ arrow_end e stroke.red

-- how an edge is drawn: by its kind, and red if it is one of the circuit
pub record IsStroke (problem : ProblemData) (circuit : List EdgeData) (e : EdgeData) (stroke : Stroke) : Type 0 where
  pub kind : IsOfKind problem.loop problem.graph.latencies e stroke.kind
  pub red : IsRed circuit e stroke.red

-- the lines of all edges, in order, those of a circuit red
abbrev pub AreArrows : ProblemData → List EdgeData → List ℕ → Type 0
AreArrows problem circuit text = AreTexts (IsStroke problem circuit) arrow_line problem.graph.edges text
