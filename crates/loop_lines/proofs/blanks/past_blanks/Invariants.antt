use Rattle.std.proofs.Common.{◌≡◌, ◌+◌, ◌≤◌, length}
use Rattle.loop_lines.specs.Columns.{words_from}
use Rattle.loop_lines.proofs.blanks.past_blanks.Given as goal

abbrev pub invariant-loop-rest : goal.invariant-loop-rest
invariant-loop-rest l = (words_from l.at l.rest ≡ words_from l.fn.column l.fn.text) × (l.at + length l.rest ≡ l.fn.column + length l.fn.text) × (length l.rest ≤ length l.fn.text)

abbrev pub decreases-loop-rest : goal.decreases-loop-rest
decreases-loop-rest l = length l.rest
