use Rattle.std.proofs.Common.{inr, refl}
use Rattle.command_line.proofs.line.refused.Goals as goal

pub returns-in-Ok : goal.returns-in-Ok
returns-in-Ok c none = inr (refl, none)
