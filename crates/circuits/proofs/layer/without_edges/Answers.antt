use Rattle.circuits.proofs.Farthest.{zeros}
use Rattle.circuits.proofs.layer.without_edges.Goals as goal

pub returns : goal.returns
returns c = zeros 128
