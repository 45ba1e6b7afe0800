use Rattle.graph.proofs.finding.Promised.{values-in_time}
use Rattle.graph.proofs.laws.values_in_time.Goals as goal

pub returns : goal.returns
returns c = values-in_time
