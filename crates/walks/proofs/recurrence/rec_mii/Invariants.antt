use Rattle.std.proofs.Common.{◌≡◌, ◌⊎◌, ◌-◌, ◌≤◌}
use Rattle.walks.specs.Walks.{Exceeds}
use Rattle.walks.proofs.recurrence.rec_mii.Given as goal

abbrev pub invariant-loop-longer : goal.invariant-loop-longer
invariant-loop-longer l = record {
  from_one : 1 ≤ l.interval;
  limit : l.interval ≤ 8192;
  asked_for : (l.interval ≡ 1) ⊎ Exceeds l.edges.edges (l.interval - 1);
}

abbrev pub decreases-loop-longer : goal.decreases-loop-longer
decreases-loop-longer l = 8192 - l.interval
