use Rattle.std.proofs.Common.{ℕ, ◌<◌, get_or}
use Rattle.edges.specs.Edges.{EdgeData}
use Rattle.edges.specs.Schedules.{KeepsEdge}
use Rattle.schedules.specs.Breaches.{times_in}
use Rattle.schedules.proofs.check.unkept.Given as goal

abbrev pub invariant-loop-edge : goal.invariant-loop-edge
invariant-loop-edge l = (k : ℕ) (d : EdgeData) → k < l.edge-index → KeepsEdge l.ii (times_in l.places) (get_or l.edges k d)
