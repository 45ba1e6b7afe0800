use Rattle.loop_schedules.proofs.Promised.{stages-are_few}
use Rattle.loop_schedules.proofs.laws.stages_are_few.Goals as goal

pub returns : goal.returns
returns c = stages-are_few
