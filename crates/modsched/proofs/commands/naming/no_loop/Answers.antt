use Rattle.std.proofs.Common.{inr, refl}
use Rattle.modsched.proofs.commands.naming.no_loop.Goals as goal

pub returns-in-Ok-clause-is : goal.returns-in-Ok-clause-is
returns-in-Ok-clause-is c = inr (c.in-Ok.name, refl, c.in-Ok.ensures.ok)
