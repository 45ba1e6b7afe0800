use Rattle.schedules.proofs.lawfulness.Breaking.{breaches-break}
use Rattle.schedules.proofs.laws.breaches_break.Goals as goal

pub returns : goal.returns
returns c = breaches-break
