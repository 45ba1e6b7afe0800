use Rattle.std.proofs.Common.{◌≡◌, ◌+◌, ◌≤◌, length, vec_capacity, vec_len}
use Rattle.std.specs.Vec.Iter.{into_iter_items, into_iter_len}
use Rattle.candidates.proofs.Readied.{Readied}
use Rattle.candidates.proofs.preparing.prepare_into.Given as goal

abbrev pub invariant-loop-innermost : goal.invariant-loop-innermost
invariant-loop-innermost l = record {
  readied : Readied l.machine l.settings.ratio l.settings.ceiling (into_iter_items l.initial.loops) (into_iter_items l.loops) l.prepared.items;
  long : length (into_iter_items l.loops) ≡ into_iter_len l.loops;
  room : into_iter_len l.loops + vec_len l.prepared ≤ vec_capacity l.prepared;
}

abbrev pub decreases-loop-innermost : goal.decreases-loop-innermost
decreases-loop-innermost l = into_iter_len l.loops
