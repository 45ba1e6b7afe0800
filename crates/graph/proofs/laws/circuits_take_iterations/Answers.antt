use Rattle.graph.proofs.finding.Promised.{circuits-take_iterations}
use Rattle.graph.proofs.laws.circuits_take_iterations.Goals as goal

pub returns : goal.returns
returns c = circuits-take_iterations
