use Rattle.std.proofs.Common.{◌≡◌, ◌+◌, ◌≤◌, ℕ, List, length, map}
use Rattle.loop_lines.specs.Words.{words_of}
use Rattle.loop_lint.specs.Misfits.{places_misfit}
use Rattle.loop_lint.specs.declared.fits.Expected.TheVariants as expected
use Rattle.loop_lint.proofs.misfit.integers_misfit.Given as goal

-- the words so far are integers
abbrev pub invariant-loop-word : goal.invariant-loop-word
invariant-loop-word l =
    (places_misfit l.at (map (λ (w : List ℕ). expected.Integer) (words_of l.left)) (words_of l.left)
    ≡ places_misfit 3 (map (λ (w : List ℕ). expected.Integer) (words_of l.fn.rest)) (words_of l.fn.rest))
    × (l.at + length l.left ≤ 3 + length l.fn.rest)

abbrev pub decreases-loop-word : goal.decreases-loop-word
decreases-loop-word l = length l.left
