use Rattle.schedules.proofs.OneProblems.{one-problem}
use Rattle.schedules.proofs.laws.one_problem.Goals as goal

pub returns : goal.returns
returns c = one-problem
