use Rattle.reason_lines.proofs.Keeping.{least-keeps}
use Rattle.explain.proofs.laws.least_is_least.Goals as goal

pub returns : goal.returns
returns c = λ problem set ii shorter times choices is fullest least some lawful.
    least-keeps problem.operations problem.graph.edges set problem.recurrences ii shorter times choices fullest is.is_problem.recurrence_bound least some lawful
