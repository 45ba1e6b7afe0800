use Rattle.loop_schedules.proofs.Promised.{problems-have}
use Rattle.loop_schedules.proofs.laws.problems_have_graphs.Goals as goal

pub returns : goal.returns
returns c = problems-have
