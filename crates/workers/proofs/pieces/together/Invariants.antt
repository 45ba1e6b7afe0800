use Rattle.std.proofs.Common.{◌≡◌, length}
use Rattle.std.specs.Vec.Iter.{into_iter_items, into_iter_len}
use Rattle.workers.proofs.Together.{TogetherSoFar}
use Rattle.workers.proofs.pieces.together.Given as goal

abbrev pub invariant-loop-one : goal.invariant-loop-one
invariant-loop-one g l = record {
  together : TogetherSoFar (into_iter_items l.initial.rest) l.names.items l.parts.items (into_iter_items l.rest);
  long : length (into_iter_items l.rest) ≡ into_iter_len l.rest;
}

abbrev pub decreases-loop-one : goal.decreases-loop-one
decreases-loop-one g l = into_iter_len l.rest
