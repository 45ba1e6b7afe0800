use Rattle.loop_data.proofs.Promised.{instances-read}
use Rattle.loop_data.proofs.laws.instances_read_values.Goals as goal

pub returns : goal.returns
returns c = instances-read
