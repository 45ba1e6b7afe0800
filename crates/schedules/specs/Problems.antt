-- What is scheduled: operations, with the edges between them and the alternatives of each.
use Rattle.std.specs.Prelude.{◌≡◌, ℕ, ◌*◌, ◌<◌, ◌≤◌, max, List, [], length, map}
use Rattle.machine_data.specs.declared.limits.TheConstants.{MAX_CEILING, MAX_RATIO}
use Rattle.std.specs.List.{All, slice_index_or}
use Rattle.machine_data.specs.declared.alternative.Row.{Row}
use Rattle.machine_data.specs.Alternative.{AreAlternatives}
use Rattle.edges.specs.Graphs.{GraphData, IsGraph}
use Rattle.unit_bound.specs.Units.{IsUnitBound}
use Rattle.walks.specs.Walks.{IsRecurrenceBound}

-- the edges, and each operation's latency in cycles and alternatives; the two lower bounds of the interval; an attempt may make ratio
-- times as many placements as there are operations; how many intervals above the least one are tried
pub record ProblemData : Type 0 where
  pub graph : GraphData
  pub operations : List (List (List Row))
  pub resources : ℕ
  pub recurrences : ℕ
  pub ratio : ℕ
  pub ceiling : ℕ

-- the least interval that is tried
abbrev pub mii_of : ProblemData → ℕ
mii_of problem = max problem.resources problem.recurrences

-- how many placements an attempt may make
abbrev pub budget_of : ProblemData → ℕ
budget_of problem = problem.ratio * length problem.operations

-- a latency and alternatives for each operation, and the bounds are those of the edges and the alternatives
pub record IsProblem (problem : ProblemData) : Type 0 where
  pub graph : IsGraph problem.graph
  pub each_latency : length problem.graph.latencies ≡ length problem.operations
  pub offered : All AreAlternatives problem.operations
  pub unit_bound : IsUnitBound problem.operations problem.resources
  pub recurrence_bound : IsRecurrenceBound problem.graph.edges problem.recurrences
  pub resources_few : problem.resources ≤ 2048
  pub recurrences_few : problem.recurrences ≤ 8192
  pub ratio_some : 1 ≤ problem.ratio
  pub ratio_few : problem.ratio ≤ MAX_RATIO
  pub ceiling_few : problem.ceiling ≤ MAX_CEILING

-- the problem of these edges, latencies and alternatives
pub record IsProblemOf (graph : GraphData) (operations : List (List (List Row))) (ratio ceiling : ℕ) (problem : ProblemData) : Type 0 where
  pub is_problem : IsProblem problem
  pub same_graph : problem.graph ≡ graph
  pub same_operations : problem.operations ≡ operations
  pub same_ratio : problem.ratio ≡ ratio
  pub same_ceiling : problem.ceiling ≡ ceiling

-- there is a number for each operation, and it is that of an operation with the same alternatives
pub record AreKinds (operations : List (List (List Row))) (kinds : List ℕ) : Type 0 where
  pub there : All (λ kind. kind < length operations) kinds
  pub same : map (λ kind. slice_index_or operations kind []) kinds ≡ operations
