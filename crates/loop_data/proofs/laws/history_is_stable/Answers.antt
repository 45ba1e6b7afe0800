use Rattle.loop_data.proofs.Promised.{history-stable}
use Rattle.loop_data.proofs.laws.history_is_stable.Goals as goal

pub returns : goal.returns
returns c = history-stable
