use Rattle.std.proofs.Common.{◌≤◌, length}
use Rattle.figures.specs.inner.Tables.{AreTakersFrom}
use Rattle.figures.proofs.takers.fill_takers.Given as goal

abbrev pub invariant-loop-op : goal.invariant-loop-op
invariant-loop-op l = record {
  within : l.op ≤ length l.schedule.problem.operations;
  takers : AreTakersFrom l.schedule l.op l.takers;
}
