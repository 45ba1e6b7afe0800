use Rattle.loop_data.proofs.Promised.{instances-give}
use Rattle.loop_data.proofs.laws.instances_give_values.Goals as goal

pub returns : goal.returns
returns c = instances-give
