use Rattle.std.proofs.Common.{◌≡◌, ◌+◌}
use Rattle.solutions.specs.Outcomes.{first_of}
use Rattle.solutions.specs.inner.Searching.{NoneBefore}
use Rattle.solutions.proofs.solving.solve.first_met.Given as goal

abbrev pub invariant-loop-above : goal.invariant-loop-above
invariant-loop-above l = record {
  same : l.trials ≡ l.problem;
  none : NoneBefore l.problem (first_of l.problem + l.above);
}
