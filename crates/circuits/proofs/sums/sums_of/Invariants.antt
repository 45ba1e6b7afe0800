use Rattle.std.proofs.Common.{◌≡◌, ◌*◌, ◌≤◌, pos, ◌-ℤ◌, take}
use Rattle.std.specs.Prelude.{◌≤ℤ◌}
use Rattle.walks.specs.Walks.{delay_of, distance_of}
use Rattle.circuits.proofs.sums.sums_of.Given as goal

abbrev pub invariant-loop-edge : goal.invariant-loop-edge
invariant-loop-edge l = record {
  delay : l.sums.delay ≡ delay_of (take l.edge-index l.edges);
  distance : l.sums.distance ≡ distance_of (take l.edge-index l.edges);
  low : (pos 0 -ℤ pos (128 * l.edge-index)) ≤ℤ l.sums.delay;
  high : l.sums.delay ≤ℤ pos (128 * l.edge-index);
  few : l.sums.distance ≤ 255 * l.edge-index;
}
