use Rattle.loop_lines.specs.Words.{words_of}
use Rattle.loop_lint.proofs.Passed.{places_done}
use Rattle.loop_lint.proofs.misfit.places_misfit.Goals as goal

pub returns-in_default : goal.returns-in_default
returns-in_default c = places_done c.loop-what.at _ (words_of c.loop-what.left.now) _ c.in_default.ensures.words c.loop-what.invariant.0
