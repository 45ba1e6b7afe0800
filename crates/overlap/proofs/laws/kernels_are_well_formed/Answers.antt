use Rattle.overlap.proofs.laws.kernels_are_well_formed.Goals as goal
use Rattle.overlap.proofs.WellFormed.{kernels-are_well_formed}

pub returns : goal.returns
returns c = kernels-are_well_formed
