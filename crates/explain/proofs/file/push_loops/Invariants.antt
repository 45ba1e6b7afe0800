use Rattle.std.proofs.Common.{◌≡◌, ◌+◌, ◌≤◌, length}
use Rattle.std.specs.Vec.Iter.{into_iter_items, into_iter_len}
use Rattle.explain.proofs.Parts.{AreDone}
use Rattle.explain.proofs.file.push_loops.Given as goal

abbrev pub invariant-loop-innermost : goal.invariant-loop-innermost
invariant-loop-innermost l = record {
  done : AreDone l.machine l.settings.ratio l.settings.ceiling (into_iter_items l.initial.loops) (into_iter_items l.loops) l.initial.text.items l.text.items l.tally.met l.tally.failed;
  long : length (into_iter_items l.loops) ≡ into_iter_len l.loops;
  few : (l.tally.met + l.tally.failed) + into_iter_len l.loops ≤ 18446744073709551615;
}

abbrev pub decreases-loop-innermost : goal.decreases-loop-innermost
decreases-loop-innermost l = into_iter_len l.loops
