use Rattle.graph.specs.Units.{operations_of}
use Rattle.graph.proofs.finding.Operations.{operations_well_formed}
use Rattle.resource_bound.proofs.Fullest.{fullest_is_bound}
use Rattle.resource_bound.proofs.laws.fullest_use_is_bound.Goals as goal

pub returns : goal.returns
returns c = λ machine loop choices m none are. fullest_is_bound (operations_of machine loop) choices are (operations_well_formed machine loop m none)
