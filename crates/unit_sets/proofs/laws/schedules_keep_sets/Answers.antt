use Rattle.unit_sets.proofs.Slots.{rows-le-slots}
use Rattle.unit_sets.proofs.laws.schedules_keep_sets.Goals as goal

pub returns : goal.returns
returns c = rows-le-slots
