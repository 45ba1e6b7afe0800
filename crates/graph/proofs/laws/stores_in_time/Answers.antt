use Rattle.graph.proofs.finding.Promised.{stores-in_time}
use Rattle.graph.proofs.laws.stores_in_time.Goals as goal

pub returns : goal.returns
returns c = stores-in_time
