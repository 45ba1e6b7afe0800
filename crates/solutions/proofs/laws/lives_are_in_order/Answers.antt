use Rattle.solutions.proofs.Unrolling.{lives-are_in_order}
use Rattle.solutions.proofs.laws.lives_are_in_order.Goals as goal

pub returns : goal.returns
returns c = lives-are_in_order
