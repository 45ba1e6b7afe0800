use Rattle.loop_data.proofs.LastStores.{cells-hold}
use Rattle.loop_data.proofs.laws.cells_hold_last_stored.Goals as goal

pub returns : goal.returns
returns c = cells-hold
