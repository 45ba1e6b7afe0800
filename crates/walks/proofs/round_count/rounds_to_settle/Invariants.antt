use Rattle.std.proofs.Common.{◌+◌}
use Rattle.walks.specs.inner.Reaches.{AreReaches}
use Rattle.walks.proofs.Settling.{HaveChanged}
use Rattle.walks.proofs.round_count.rounds_to_settle.Given as goal

abbrev pub invariant-loop-made : goal.invariant-loop-made
invariant-loop-made l = record {
  reaches : AreReaches l.edges l.interval l.made l.made l.numbers;
  changed : HaveChanged l.edges l.interval (l.made + 1);
}
