use Rattle.variants.proofs.Others.{one-interval}
use Rattle.variants.proofs.laws.one_interval.Goals as goal

pub returns : goal.returns
returns c = one-interval
