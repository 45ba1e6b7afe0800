use Rattle.std.proofs.Common.{sym}
use Rattle.problem_reasons.proofs.Tried.{hold-after, hold-first}
use Rattle.problem_reasons.proofs.hold.hold_of.Goals as goal

pub returns-in-Some : goal.returns-in-Some
returns-in-Some c ii low are = hold-after c.args.problem.now ii c.args.failures.now c.in-Some.failure.now low are (sym c.in-Some.ensures.value)

pub returns-in-None : goal.returns-in-None
returns-in-None c ii low are = hold-first c.args.problem.now ii c.args.failures.now c.bound_of.result low are (sym c.in-None.ensures.value) c.bound_of.ensures
