use Rattle.walks.proofs.Settling.{sums-are_limited}
use Rattle.walks.proofs.laws.sums_are_limited.Goals as goal

pub returns : goal.returns
returns c = sums-are_limited
