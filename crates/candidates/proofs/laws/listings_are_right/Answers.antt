use Rattle.candidates.proofs.Promised.{listings-are_right}
use Rattle.candidates.proofs.laws.listings_are_right.Goals as goal

pub returns : goal.returns
returns c = listings-are_right
