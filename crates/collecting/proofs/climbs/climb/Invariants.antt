use Rattle.std.proofs.Common.{◌≡◌}
use Rattle.collecting.proofs.Climbing.{Climbed}
use Rattle.collecting.proofs.climbs.climb.Given as goal

abbrev pub invariant-loop-above : goal.invariant-loop-above
invariant-loop-above l = record {
  same : l.trials ≡ l.prepared;
  climbed : Climbed l.prepared l.fn.row l.row l.above l.retried l.last;
}
