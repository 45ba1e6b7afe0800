use Rattle.loop_schedules.proofs.Promised.{schedules-keep}
use Rattle.loop_schedules.proofs.laws.schedules_keep_dependences.Goals as goal

pub returns : goal.returns
returns c = schedules-keep
