use Rattle.problems.proofs.keeping.InTime.{orders-kept}
use Rattle.problems.proofs.laws.orders_are_kept.Goals as goal

pub returns : goal.returns
returns c = orders-kept
