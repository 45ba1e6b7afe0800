use Rattle.walks.proofs.Circuits.{walks-are_short}
use Rattle.walks.proofs.laws.walks_are_short.Goals as goal

pub returns : goal.returns
returns c = walks-are_short
