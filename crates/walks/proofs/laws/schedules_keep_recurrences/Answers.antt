use Rattle.walks.proofs.Recurrences.{schedules-keep_recurrences}
use Rattle.walks.proofs.laws.schedules_keep_recurrences.Goals as goal

pub returns : goal.returns
returns c = schedules-keep_recurrences
