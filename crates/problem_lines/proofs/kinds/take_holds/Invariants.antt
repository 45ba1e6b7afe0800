use Rattle.std.proofs.Common.{◌≡◌, true, length}
use Rattle.problem_lines.specs.inner.Cursors.{are_holds, holds_fault}
use Rattle.problem_lines.proofs.kinds.take_holds.Given as goal

-- what is left decides the fault, and whether all are holds and bars
abbrev pub invariant-loop-first : goal.invariant-loop-first
invariant-loop-first l = record {
  fault : holds_fault l.first l.left ≡ holds_fault true l.fn.left;
  sound : are_holds l.left.words ≡ true → are_holds l.fn.left.words ≡ true;
}

abbrev pub decreases-loop-first : goal.decreases-loop-first
decreases-loop-first l = length l.left.words
