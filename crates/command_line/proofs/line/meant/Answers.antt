use Rattle.std.proofs.Common.{refl}
use Rattle.command_line.proofs.LineLemmas.{Means-at, Means-nowhere}
use Rattle.command_line.proofs.line.meant.Goals as goal

pub returns-in-Some : goal.returns-in-Some
returns-in-Some c = (refl, Means-at _ _ _ _ c.in-Some.is c.in_ok-command.ensures.meant refl)

pub returns-in-None : goal.returns-in-None
returns-in-None c = c.refused.ensures (Means-nowhere _ _ _ c.in-None.is c.in_ok-command.ensures.none refl)
