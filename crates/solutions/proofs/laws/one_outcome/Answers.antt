use Rattle.solutions.proofs.OneOutcomes.{one-outcome}
use Rattle.solutions.proofs.laws.one_outcome.Goals as goal

pub returns : goal.returns
returns c = one-outcome
