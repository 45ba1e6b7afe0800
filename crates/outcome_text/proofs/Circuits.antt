-- The circuit that the recurrence-constrained bound is due to.
use Rattle.std.proofs.Common.{◌-◌, ◌≤◌, List, length, arith}
use Rattle.edges.specs.Edges.{EdgeData}
use Rattle.circuits.specs.Circuits.{IsCircuitAbove}
use Rattle.circuits.proofs.Rounds.{once-short}
use Rattle.schedules.specs.Problems.{ProblemData as SchedulingData, IsProblem}

pub is-short : (p : SchedulingData) (walk : List EdgeData) → IsProblem p → IsCircuitAbove p.graph.edges (p.recurrences - 1) walk → length walk ≤ 128
is-short p walk is above =
    let short : length walk ≤ length p.graph.latencies = once-short p.graph is.graph above.start above.start walk above.closed above.once in
    let few : length p.graph.latencies ≤ 128 = is.graph.few in
    omega arith
