use Rattle.std.proofs.Common.{◌≤◌, take}
use Rattle.circuits.specs.inner.Layers.{IsFarthest}
use Rattle.circuits.proofs.layer.farthest.Given as goal

abbrev pub invariant-loop-edge : goal.invariant-loop-edge
invariant-loop-edge l = record {
  few : l.reach ≤ 1048703;
  farthest : IsFarthest (take l.edge-index l.outgoing) l.interval l.lengths l.own l.reach l.first;
}
