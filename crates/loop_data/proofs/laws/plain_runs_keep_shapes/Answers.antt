use Rattle.loop_data.proofs.Promised.{plain-keeps_shapes}
use Rattle.loop_data.proofs.laws.plain_runs_keep_shapes.Goals as goal

pub returns : goal.returns
returns c = plain-keeps_shapes
