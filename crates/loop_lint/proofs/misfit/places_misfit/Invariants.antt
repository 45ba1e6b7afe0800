use Rattle.std.proofs.Common.{◌≡◌, ◌+◌, drop}
use Rattle.loop_lines.specs.Words.{words_of}
use Rattle.loop_lint.specs.Misfits.{places_misfit}
use Rattle.loop_lint.proofs.misfit.places_misfit.Given as goal

-- the words so far stand in their places
abbrev pub invariant-loop-what : goal.invariant-loop-what
invariant-loop-what l = (places_misfit l.at (drop l.what-index l.places) (words_of l.left) ≡ places_misfit l.fn.number l.places (words_of l.fn.rest)) × (l.at ≡ l.fn.number + l.what-index)
