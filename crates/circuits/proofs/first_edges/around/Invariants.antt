use Rattle.std.proofs.Common.{◌≢◌, ◌<◌, ◌≤◌, length}
use Rattle.circuits.proofs.Rings.{IsAlongFirst}
use Rattle.circuits.proofs.first_edges.around.Given as goal

abbrev pub invariant-loop-step : goal.invariant-loop-step
invariant-loop-step l = record {
  there : l.at < length l.edges.latencies;
  few : length l.walk.items ≤ l._step;
  away : 0 < length l.walk.items → l.at ≢ l.start;
  along : IsAlongFirst l.edges.edges l.first l.start l.walk.items l.at;
}
