use Rattle.std.proofs.Common.{◌≡◌, true, length}
use Rattle.problem_lines.specs.Lines.{alternatives_in}
use Rattle.problem_lines.specs.inner.Cursors.{are_holds}
use Rattle.problem_lines.proofs.kinds.Alternatives.next_alternative.Given as goal

-- the alternatives that are left are the same
abbrev pub invariant-loop-piece : goal.invariant-loop-piece
invariant-loop-piece l = (alternatives_in l.self-inside.left.words ≡ l.fn.self) × (are_holds l.self-inside.left.words ≡ true)

abbrev pub decreases-loop-piece : goal.decreases-loop-piece
decreases-loop-piece l = length l.self-inside.left.words
