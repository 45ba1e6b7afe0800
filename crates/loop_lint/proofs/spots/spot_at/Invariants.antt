use Rattle.std.proofs.Common.{◌≡◌, ◌+◌, ◌<◌, ◌^◌, length}
use Rattle.loop_lines.specs.Columns.{placed_words, words_from}
use Rattle.loop_lint.specs.Words.{spot_at, spot_from}
use Rattle.loop_lint.proofs.spots.spot_at.Given as goal

-- the word is among those that are left
abbrev pub invariant-loop-word : goal.invariant-loop-word
invariant-loop-word l = (spot_from l.column (words_from l.column l.rest) l.left ≡ spot_at (placed_words l.fn.line) l.fn.number) × (l.column + length l.rest < 2 ^ 64)

abbrev pub decreases-loop-word : goal.decreases-loop-word
decreases-loop-word l = length l.rest
