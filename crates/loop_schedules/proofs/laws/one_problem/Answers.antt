use Rattle.loop_schedules.proofs.problems.OneProblems.{one-problem}
use Rattle.loop_schedules.proofs.laws.one_problem.Goals as goal

pub returns : goal.returns
returns c = one-problem
