use Rattle.figures.proofs.OneTaker.{slots-have_one_taker}
use Rattle.figures.proofs.laws.slots_have_one_taker.Goals as goal

pub returns : goal.returns
returns c = slots-have_one_taker
