use Rattle.problem_graphs.proofs.Quotes.{read-back}
use Rattle.problem_graphs.proofs.laws.names_are_read_back.Goals as goal

pub returns : goal.returns
returns c = read-back
