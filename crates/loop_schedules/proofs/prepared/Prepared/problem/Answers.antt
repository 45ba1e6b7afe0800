use Rattle.std.proofs.Common.{ap}
use Rattle.loop_schedules.specs.Problems.{without_loop}
use Rattle.loop_schedules.proofs.prepared.Prepared.problem.Goals as goal

pub returns-clause-value : goal.returns-clause-value
returns-clause-value c = ap without_loop c.self.view_is
