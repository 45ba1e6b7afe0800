use Rattle.variants.proofs.Others.{others-change-nothing}
use Rattle.variants.proofs.laws.others_change_nothing.Goals as goal

pub returns : goal.returns
returns c = others-change-nothing
