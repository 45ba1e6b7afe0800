-- The lines of a circuit that the recurrence-constrained bound is due to.
use Rattle.std.specs.Prelude.{◌≡◌, ◌≢◌, ℕ, List, ◌++◌, take, Some, slice_get}
use Rattle.std.specs.List.{All}
use Rattle.edges.specs.Edges.{EdgeData}
use Rattle.graph_text.specs.CircuitLines.{circuit_line}
use Rattle.lower_bounds.specs.Texts.{AreTexts}
use Rattle.registers.specs.declared.value.Read.{Read}
use Rattle.problems.specs.declared.draft.Draft.{Draft}
use Rattle.problems.specs.Drafts.{read_edge}
use Rattle.problems.specs.Problems.{ProblemData}
use Rattle.outcome_text.specs.Notes.{IsCircuitOf}
use Rattle.problem_graphs.specs.declared.whys.Why.{Why}
use Rattle.problem_graphs.specs.declared.whys.Why.TheVariants.{Value, Order}
use Rattle.problem_graphs.specs.Edges.{edge_line}

-- the first read that demands an edge reads this value
pub record IsFirstRead (draft : Draft) (e : EdgeData) (value : ℕ) : Type 0 where
  pub place : ℕ
  pub reading : Read
  pub there : slice_get draft.reads.items place ≡ Some reading
  pub demands : read_edge draft reading ≡ e
  pub is_value : reading.value ≡ value
  pub first : All (λ (sooner : Read). read_edge draft sooner ≢ e) (take place draft.reads.items)

-- why an edge is demanded: for the value of the first read that demands it, and where none does by an order
abbrev pub IsWhy : Draft → EdgeData → Why → Type 0
IsWhy draft e (Value value) = IsFirstRead draft e value
IsWhy draft e Order = All (λ (r : Read). read_edge draft r ≢ e) draft.reads.items

-- a circuit that the recurrence-constrained bound is due to: the line of its sums, and a line for each of its edges, in its order, with
-- why it is demanded
pub record IsCircuitText (problem : ProblemData) (text : List ℕ) : Type 0 where
  pub circuit : List EdgeData
  pub is_circuit : IsCircuitOf problem.scheduling circuit
  pub lines : List ℕ
  pub are_lines : AreTexts (IsWhy problem.draft) (edge_line problem.draft) circuit lines
  pub is_text : text ≡ circuit_line circuit problem.scheduling.recurrences ++ lines
