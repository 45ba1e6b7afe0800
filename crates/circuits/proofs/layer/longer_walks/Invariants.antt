use Rattle.std.proofs.Common.{◌≡◌, length}
use Rattle.circuits.proofs.Layers.{IsLayerTo, IsLongerAt}
use Rattle.circuits.proofs.layer.longer_walks.Given as goal

abbrev pub invariant-loop-operation : goal.invariant-loop-operation
invariant-loop-operation l = record {
  long : length l.lengths ≡ 128;
  all : length l.first ≡ 128;
  layer : IsLayerTo l.edges l.interval l.before l.lengths l.first l.operation;
  longer : IsLongerAt l.before l.lengths l.operation l.at;
}
