use Rattle.unit_sets.proofs.Used.{fullest-used}
use Rattle.unit_sets.proofs.laws.fullest_is_used.Goals as goal

pub returns : goal.returns
returns c = fullest-used
