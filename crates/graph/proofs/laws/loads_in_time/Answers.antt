use Rattle.graph.proofs.finding.Promised.{loads-in_time}
use Rattle.graph.proofs.laws.loads_in_time.Goals as goal

pub returns : goal.returns
returns c = loads-in_time
