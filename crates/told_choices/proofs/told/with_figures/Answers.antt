use Rattle.std.proofs.Common.{refl}
use Rattle.told_choices.proofs.told.with_figures.Goals as goal

pub returns-in-Ok : goal.returns-in-Ok
returns-in-Ok c = λ problem are. let has = c.in-Ok.ensures problem are in (has.0, (c.in-Ok.figures, refl, has.1))
