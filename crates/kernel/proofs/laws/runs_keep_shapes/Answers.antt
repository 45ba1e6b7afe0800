use Rattle.kernel.proofs.cycles.Promised.{runs-keep_shapes}
use Rattle.kernel.proofs.laws.runs_keep_shapes.Goals as goal

pub returns : goal.returns
returns c = runs-keep_shapes
