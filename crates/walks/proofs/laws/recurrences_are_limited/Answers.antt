use Rattle.walks.proofs.Potentials.{recurrences-are_limited}
use Rattle.walks.proofs.laws.recurrences_are_limited.Goals as goal

pub returns : goal.returns
returns c = recurrences-are_limited
