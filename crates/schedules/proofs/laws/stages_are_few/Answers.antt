use Rattle.schedules.proofs.lawfulness.Stages.{stages-are_few}
use Rattle.schedules.proofs.laws.stages_are_few.Goals as goal

pub returns : goal.returns
returns c = stages-are_few
