use Rattle.std.proofs.Common.{◌≡◌, ◌⊎◌, ◌-◌, ◌≤◌}
use Rattle.walks.specs.Walks.{Exceeds}
use Rattle.walks.proofs.recurrence.interval_of_self_edges.Given as goal

abbrev pub invariant-loop-edge : goal.invariant-loop-edge
invariant-loop-edge l = record {
  from_one : 1 ≤ l.interval;
  limit : l.interval ≤ 8192;
  asked_for : (l.interval ≡ 1) ⊎ Exceeds l.edges.edges (l.interval - 1);
}
