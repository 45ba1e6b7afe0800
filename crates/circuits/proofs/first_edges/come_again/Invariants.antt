use Rattle.std.proofs.Common.{◌<◌, length}
use Rattle.circuits.proofs.first_edges.come_again.Given as goal

abbrev pub invariant-loop-step : goal.invariant-loop-step
invariant-loop-step l = l.at < length l.edges.latencies
