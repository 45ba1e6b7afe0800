use Rattle.std.proofs.Common.{◌≡◌, ◌+◌, ◌≤◌, ℤ, List, Option, is_none, length}
use Rattle.std.specs.List.{list_any}
use Rattle.loop_lines.specs.Forms.{ints_of}
use Rattle.loop_lines.specs.Words.{words_of}
use Rattle.loop_lines.proofs.Pieces.{after}
use Rattle.loop_lines.proofs.cells.measure.Given as goal

abbrev pub invariant-loop-cell : goal.invariant-loop-cell
invariant-loop-cell l =
    (done : List (Option ℤ)) × (ints_of (words_of l.rest) ≡ after done (ints_of (words_of l.left)))
    × (l.wide ≡ list_any is_none done) × (l.count ≡ length done) × (length done + length (words_of l.left) ≤ length l.rest)

abbrev pub decreases-loop-cell : goal.decreases-loop-cell
decreases-loop-cell l = length (words_of l.left)
