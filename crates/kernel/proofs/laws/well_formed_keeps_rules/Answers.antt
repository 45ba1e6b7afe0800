use Rattle.kernel.proofs.cycles.Promised.{well_formed-keeps_rules}
use Rattle.kernel.proofs.laws.well_formed_keeps_rules.Goals as goal

pub returns : goal.returns
returns c = well_formed-keeps_rules
