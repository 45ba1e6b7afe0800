use Rattle.std.proofs.Common.{◌≡◌, ℤ, pos, List, Option, is_none, length, map}
use Rattle.std.specs.List.{list_any}
use Rattle.std.specs.Option.{unwrap_or}
use Rattle.loop_lines.specs.Forms.{ints_of}
use Rattle.loop_lines.specs.Words.{words_of}
use Rattle.loop_lines.proofs.Pieces.{after}
use Rattle.loop_lines.proofs.cells.cells_of.Given as goal

abbrev pub invariant-loop-cell : goal.invariant-loop-cell
invariant-loop-cell l =
    (done : List (Option ℤ)) × (ints_of (words_of l.words.words.now) ≡ after done (ints_of (words_of l.left)))
    × (l.cells.items ≡ map (λ cell. unwrap_or cell (pos 0)) done)
    × (l.wide ≡ list_any is_none done)

abbrev pub decreases-loop-cell : goal.decreases-loop-cell
decreases-loop-cell l = length (words_of l.left)
