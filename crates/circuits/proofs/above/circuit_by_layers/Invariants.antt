use Rattle.std.proofs.Common.{◌+◌, ◌≤◌, length}
use Rattle.circuits.proofs.Growth.{IsGrown, IsWalked}
use Rattle.circuits.proofs.above.circuit_by_layers.Given as goal

abbrev pub invariant-loop-made : goal.invariant-loop-made
invariant-loop-made l = IsGrown l.edges l.ii l.layers.items l.made l.at

abbrev pub invariant-loop-left : goal.invariant-loop-left
invariant-loop-left l = record {
  few : length l.walk.items + l.left ≤ l.most;
  way : IsWalked l.edges l.ii l.layers.items l.most l.initial.at l.walk.items l.at l.left;
}
