use Rattle.std.proofs.Common.{◌<◌, length}
use Rattle.walks.proofs.relaxation.far_along.Given as goal

abbrev pub invariant-loop-step : goal.invariant-loop-step
invariant-loop-step l = l.at < length l.edges.latencies
