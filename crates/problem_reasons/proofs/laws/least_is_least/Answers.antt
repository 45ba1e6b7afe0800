use Rattle.reason_lines.proofs.Keeping.{least-keeps}
use Rattle.problem_reasons.proofs.laws.least_is_least.Goals as goal

pub returns : goal.returns
returns c = λ problem set ii shorter times choices is fullest least some lawful.
    least-keeps problem.scheduling.operations problem.scheduling.graph.edges set problem.scheduling.recurrences ii shorter times choices fullest
    is.is_scheduling.is_problem.recurrence_bound least some lawful
