use Rattle.std.proofs.Common.{◌≡◌, ◌+◌, ◌≤◌, drop, length}
use Rattle.loop_lines.specs.Words.{words_of}
use Rattle.loop_lint.specs.Parts.{cell_parts, first_part, is_over}
use Rattle.loop_lint.proofs.judge.first_wide_cell.Given as goal

-- the cells so far are none of those
abbrev pub invariant-loop-word : goal.invariant-loop-word
invariant-loop-word l =
    (first_part is_over (cell_parts l.number (words_of l.left)) ≡ first_part is_over (cell_parts 0 (drop 3 (words_of l.fn.line))))
    × (l.number + length l.left ≤ length l.fn.line)

abbrev pub decreases-loop-word : goal.decreases-loop-word
decreases-loop-word l = length l.left
