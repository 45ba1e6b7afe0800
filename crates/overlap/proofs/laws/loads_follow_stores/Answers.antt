use Rattle.overlap.proofs.laws.loads_follow_stores.Goals as goal
use Rattle.overlap.proofs.Passes.{loads-follow_stores}

pub returns : goal.returns
returns c = loads-follow_stores
