use Rattle.problem_lines.proofs.Labels.{name-label}
use Rattle.problem_lines.proofs.laws.names_are_labels.Goals as goal

pub returns : goal.returns
returns c = name-label
