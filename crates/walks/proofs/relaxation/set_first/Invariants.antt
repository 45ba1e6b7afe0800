use Rattle.std.proofs.Common.{◌≡◌, ℕ, ◌<◌, length, get_or}
use Rattle.walks.proofs.relaxation.set_first.Given as goal

abbrev pub invariant-loop-operation : goal.invariant-loop-operation
invariant-loop-operation l = record {
  long : length l.numbers ≡ 128;
  each : (p : ℕ) → p < l.operation → get_or l.numbers p 0 ≡ get_or l.edges.latencies p 0;
}
