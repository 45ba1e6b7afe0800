-- The operations of a problem and what they wait for, as a graph in the language of Graphviz.
use Rattle.std.specs.Prelude.{◌≡◌, ℕ, codes, List, ◌++◌, length}
use Rattle.std.specs.List.{flat_map, range_with_len}
use Rattle.edges.specs.Edges.{EdgeData}
use Rattle.graph_marks.specs.Labels.{nodes_plain}
use Rattle.graph_text.specs.Drawings.{IsCritical}
use Rattle.schedules.specs.Problems.{ProblemData as SchedulingData}
use Rattle.problems.specs.Problems.{ProblemData}
use Rattle.problem_graphs.specs.declared.arrows.Look.TheVariants.{Plain}
use Rattle.problem_graphs.specs.Arrows.{AreOrders, AreReads}
use Rattle.problem_graphs.specs.Nodes.{node_line, title}

-- `digraph "NAME" {`, the label `NAME res R rec C mii M`, and the shape of all operations, a line each
abbrev pub graph_head : List ℕ → SchedulingData → List ℕ
graph_head name scheduling = title name scheduling ++ nodes_plain

-- the graph of a problem: a node for each operation, and an arrow for each read and, after these, for each order, of which those of a
-- circuit that needs the recurrence-constrained bound are bold
pub record IsDotText (name : List ℕ) (problem : ProblemData) (text : List ℕ) : Type 0 where
  pub circuit : List EdgeData
  pub is_critical : IsCritical problem.scheduling.graph.edges problem.scheduling.recurrences circuit
  pub reads : List ℕ
  pub are_reads : AreReads Plain problem.draft circuit problem.draft.reads.items reads
  pub orders : List ℕ
  pub are_orders : AreOrders Plain problem.draft circuit problem.draft.orders.items orders
  pub is_text : text ≡ (((graph_head name problem.scheduling ++ flat_map (node_line problem.draft) (range_with_len 0 (length problem.draft.operations.items))) ++ reads)
      ++ orders) ++ codes "}\n"
