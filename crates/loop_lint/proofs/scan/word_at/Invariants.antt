use Rattle.std.proofs.Common.{◌≡◌, [], get_or, length}
use Rattle.loop_lines.specs.Words.{words_of}
use Rattle.loop_lint.proofs.scan.word_at.Given as goal

-- the word is among those that are left
abbrev pub invariant-loop-word : goal.invariant-loop-word
invariant-loop-word l = get_or (words_of l.rest) l.left [] ≡ get_or (words_of l.fn.line) l.fn.number []

abbrev pub decreases-loop-word : goal.decreases-loop-word
decreases-loop-word l = length l.rest
