-- The graph of a problem with its solution, or with why it has none.
use Rattle.std.specs.Prelude.{◌≡◌, ℕ, codes, List, ◌++◌, length, slice_index}
use Rattle.std.specs.List.{flat_map, range_with_len}
use Rattle.edges.specs.Edges.{EdgeData}
use Rattle.graph_marks.specs.Labels.{failed_label, met_label, nodes_filled, nodes_plain}
use Rattle.graph_marks.specs.Nodes.{place_text}
use Rattle.graph_text.specs.Drawings.{IsCritical}
use Rattle.schedules.specs.Schedules.{stages_of}
use Rattle.problems.specs.declared.draft.Draft.{Draft}
use Rattle.problems.specs.Problems.{ProblemData}
use Rattle.solutions.specs.declared.solving.outcome.Outcome.{Outcome}
use Rattle.solutions.specs.declared.solving.outcome.Outcome.TheVariants.{Met, Failed}
use Rattle.solutions.specs.Outcomes.{last_of}
use Rattle.solutions.specs.Solutions.{schedule_of}
use Rattle.problem_graphs.specs.declared.arrows.Look.TheVariants.{Scheduled}
use Rattle.problem_graphs.specs.Arrows.{AreOrders, AreReads}
use Rattle.solution_text.specs.Causes.{cause_word}
use Rattle.problem_graphs.specs.Nodes.{node_line, node_start, title}

-- the interval of the solution and its stages, or the last interval that is tried and why it gives none
abbrev pub result_text : ProblemData → Outcome → List ℕ
result_text problem (Met s) = met_label s.ii (stages_of (schedule_of s))
result_text problem (Failed cause) = failed_label (last_of problem) (cause_word cause)

-- operations are filled where they have a place
abbrev pub look_text : Outcome → List ℕ
look_text (Met s) = nodes_filled
look_text (Failed cause) = nodes_plain

-- `  K [label="NAME KIND`, and where the operation stands, with a line feed
abbrev pub placed_line : Draft → ℕ → ℕ → ℕ → List ℕ
placed_line draft ii time op = node_start draft op ++ place_text ii time

-- the lines of all operations, with their places where there is a solution
abbrev pub nodes_of : Draft → Outcome → List ℕ
nodes_of draft (Met s) = flat_map (λ op. placed_line draft s.ii (slice_index s.times op) op) (range_with_len 0 (length draft.operations.items))
nodes_of draft (Failed cause) = flat_map (node_line draft) (range_with_len 0 (length draft.operations.items))

-- the graph of a problem with what it comes to. The arrows of a circuit that needs the recurrence-constrained bound are red
pub record IsScheduledText (name : List ℕ) (problem : ProblemData) (outcome : Outcome) (text : List ℕ) : Type 0 where
  pub circuit : List EdgeData
  pub is_critical : IsCritical problem.scheduling.graph.edges problem.scheduling.recurrences circuit
  pub reads : List ℕ
  pub are_reads : AreReads Scheduled problem.draft circuit problem.draft.reads.items reads
  pub orders : List ℕ
  pub are_orders : AreOrders Scheduled problem.draft circuit problem.draft.orders.items orders
  pub is_text : text ≡ ((((title name problem.scheduling ++ (result_text problem outcome ++ look_text outcome)) ++ nodes_of problem.draft outcome) ++ reads) ++ orders) ++ codes "}\n"
