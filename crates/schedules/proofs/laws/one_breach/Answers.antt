use Rattle.schedules.proofs.lawfulness.Breaking.{one-breach}
use Rattle.schedules.proofs.laws.one_breach.Goals as goal

pub returns : goal.returns
returns c = one-breach
