use Rattle.std.proofs.Common.{◌≡◌, length}
use Rattle.std.specs.Vec.Iter.{into_iter_items, into_iter_len}
use Rattle.workers.proofs.Joins.{FaultSoFar, JoinedSoFar}
use Rattle.workers.proofs.reading.joining.joined.Given as goal

abbrev pub invariant-loop-part : goal.invariant-loop-part
invariant-loop-part l = record {
  joined : JoinedSoFar (into_iter_items l.initial.parts) l.loops.items (into_iter_items l.parts);
  fault : FaultSoFar (into_iter_items l.initial.parts) (into_iter_items l.parts);
  long : length (into_iter_items l.parts) ≡ into_iter_len l.parts;
}

abbrev pub decreases-loop-part : goal.decreases-loop-part
decreases-loop-part l = into_iter_len l.parts
