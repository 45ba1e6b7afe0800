use Rattle.std.proofs.Common.{◌≡◌, ℕ, ◌≤◌, Some, None, length}
use Rattle.walks.specs.inner.Reaches.{AreVias, IsRise}
use Rattle.walks.proofs.Sweeps.{IsSwept, KeepFrom, KeepOnward}
use Rattle.walks.proofs.relaxation.raise_all.Given as goal

abbrev pub invariant-loop-operation : goal.invariant-loop-operation
invariant-loop-operation l = record {
  long : length l.numbers ≡ 128;
  vias_long : length l.via ≡ 128;
  within : l.operation ≤ length l.edges.latencies;
  swept : IsSwept l.edges l.interval l.made l.operation l.numbers;
  via : AreVias l.edges l.via;
  rises : (p : ℕ) → l.rising ≡ Some p → IsRise l.edges l.interval l.made p;
  stays : l.rising ≡ None → KeepFrom l.edges l.interval l.operation l.numbers;
  onward : KeepOnward l.edges l.interval l.operation l.numbers;
}
