-- What is scheduled: a loop, with the dependences between its operations and what a machine offers for each of them.
use Rattle.std.specs.Prelude.{◌≡◌, ℕ, ◌*◌, ◌≤◌, max, List, length}
use Rattle.machine_data.specs.declared.limits.TheConstants.{MAX_REGISTERS}
use Rattle.std.specs.List.{All, Contains}
use Rattle.machine_data.specs.declared.alternative.Row.{Row}
use Rattle.machine_data.specs.Machines.{MachineData}
use Rattle.loop_data.specs.Loops.{LoopData, IsLoop}
use Rattle.edges.specs.Edges.{EdgeData}
use Rattle.graph.specs.Dependences.{Dependence, latencies_of}
use Rattle.edges.specs.Graphs.{GraphData}
use Rattle.graph.specs.Units.{operations_of}
use Rattle.schedules.specs.Problems as schedules

-- the loop; its edges, and each operation's latency in cycles and alternatives; the machine's registers; the two lower bounds of the
-- interval; an attempt may make ratio times as many placements as there are operations; how many intervals above the least one are tried
pub record ProblemData : Type 0 where
  pub loop : LoopData
  pub graph : GraphData
  pub operations : List (List (List Row))
  pub registers : ℕ
  pub resources : ℕ
  pub recurrences : ℕ
  pub ratio : ℕ
  pub ceiling : ℕ

-- what an attempt is given of it: all but the loop and the registers
abbrev pub without_loop : ProblemData → schedules.ProblemData
without_loop problem = record { graph = problem.graph; operations = problem.operations; resources = problem.resources; recurrences = problem.recurrences; ratio = problem.ratio; ceiling = problem.ceiling }

-- a loop with all that an attempt is given, on a machine with this many registers
abbrev pub with_loop : LoopData → ℕ → schedules.ProblemData → ProblemData
with_loop loop registers problem = record { loop = loop; graph = problem.graph; operations = problem.operations; registers = registers; resources = problem.resources; recurrences = problem.recurrences; ratio = problem.ratio; ceiling = problem.ceiling }

-- the least interval that is tried
abbrev pub mii_of : ProblemData → ℕ
mii_of problem = max problem.resources problem.recurrences

-- how many placements an attempt may make
abbrev pub budget_of : ProblemData → ℕ
budget_of problem = problem.ratio * length problem.operations

-- the edges and bounds are those that the loop has with these latencies and alternatives
pub record IsProblem (problem : ProblemData) : Type 0 where
  pub loop : IsLoop problem.loop
  pub is_problem : schedules.IsProblem (without_loop problem)
  pub each_operation : length problem.operations ≡ length problem.loop.statements
  pub sound : All (Dependence problem.loop problem.graph.latencies) problem.graph.edges
  pub complete : (e : EdgeData) → Dependence problem.loop problem.graph.latencies e → Contains problem.graph.edges e
  pub registers_some : 1 ≤ problem.registers
  pub registers_few : problem.registers ≤ MAX_REGISTERS

-- the problem of a loop on a machine
pub record IsProblemOf (machine : MachineData) (loop : LoopData) (ratio ceiling : ℕ) (problem : ProblemData) : Type 0 where
  pub is_problem : IsProblem problem
  pub same_loop : problem.loop ≡ loop
  pub latencies : problem.graph.latencies ≡ latencies_of machine loop
  pub alternatives : problem.operations ≡ operations_of machine loop
  pub same_registers : problem.registers ≡ machine.registers
  pub same_ratio : problem.ratio ≡ ratio
  pub same_ceiling : problem.ceiling ≡ ceiling
