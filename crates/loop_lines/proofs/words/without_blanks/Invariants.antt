use Rattle.std.proofs.Common.{◌≡◌, length}
use Rattle.loop_lines.specs.Words.{words_of}
use Rattle.loop_lines.proofs.words.without_blanks.Given as goal

abbrev pub invariant-loop-rest : goal.invariant-loop-rest
invariant-loop-rest l = words_of l.rest ≡ words_of l.fn.text

abbrev pub decreases-loop-rest : goal.decreases-loop-rest
decreases-loop-rest l = length l.rest
