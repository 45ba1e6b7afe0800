use Rattle.graph.proofs.finding.Promised.{stores-in_order}
use Rattle.graph.proofs.laws.stores_in_order.Goals as goal

pub returns : goal.returns
returns c = stores-in_order
