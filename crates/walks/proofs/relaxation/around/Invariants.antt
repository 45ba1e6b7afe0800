use Rattle.std.proofs.Common.{◌<◌, ◌≤◌, ◌*◌, pos, length}
use Rattle.std.specs.Prelude.{◌≤ℤ◌, neg_ℤ}
use Rattle.walks.proofs.Sweeps.{IsAlong}
use Rattle.walks.proofs.relaxation.around.Given as goal

abbrev pub invariant-loop-step : goal.invariant-loop-step
invariant-loop-step l = record {
  there : l.at < length l.edges.latencies;
  along : IsAlong l.edges.edges l.start l.at l.delay l.distance;
  high : l.delay ≤ℤ pos (127 * l._step);
  low : neg_ℤ (pos (128 * l._step)) ≤ℤ l.delay;
  near : l.distance ≤ 255 * l._step;
}
