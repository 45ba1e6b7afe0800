use Rattle.candidates.proofs.Promised.{kernels-run}
use Rattle.candidates.proofs.laws.kernels_run_as_loops.Goals as goal

pub returns : goal.returns
returns c = kernels-run
