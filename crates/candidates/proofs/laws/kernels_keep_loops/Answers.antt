use Rattle.candidates.proofs.Promised.{kernels-keep}
use Rattle.candidates.proofs.laws.kernels_keep_loops.Goals as goal

pub returns : goal.returns
returns c = kernels-keep
