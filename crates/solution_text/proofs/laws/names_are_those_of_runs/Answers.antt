use Rattle.solution_text.proofs.Meant.{names-are}
use Rattle.solution_text.proofs.laws.names_are_those_of_runs.Goals as goal

pub returns : goal.returns
returns c = names-are
