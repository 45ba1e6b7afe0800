use Rattle.candidates.proofs.Promised.{one-listing}
use Rattle.candidates.proofs.laws.one_listing.Goals as goal

pub returns : goal.returns
returns c = one-listing
