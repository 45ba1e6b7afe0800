use Rattle.std.proofs.Common.{◌≡◌, ◌+◌, ◌-◌, ◌*◌, ◌≤◌, false, length}
use Rattle.walks.proofs.Sweeps.{KeepFrom}
use Rattle.circuits.specs.inner.Sweeps.{AreFirst, AreShort}
use Rattle.circuits.proofs.sweeps.sweep.Given as goal

abbrev pub invariant-loop-operation : goal.invariant-loop-operation
invariant-loop-operation l = record {
  long : length l.lengths ≡ 128;
  all : length l.first ≡ 128;
  within : l.operation ≤ length l.edges.latencies;
  short : AreShort l.edges (8192 * l.made + 64 * (length l.edges.latencies - l.operation)) l.lengths;
  begins : AreFirst l.edges l.first;
  stays : l.longer ≡ false → KeepFrom l.edges l.interval l.operation l.lengths;
}
