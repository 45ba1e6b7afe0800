use Rattle.overlap.proofs.laws.names_are_of_instances.Goals as goal
use Rattle.overlap.proofs.Passes.{names-are_of_instances}

pub returns : goal.returns
returns c = names-are_of_instances
