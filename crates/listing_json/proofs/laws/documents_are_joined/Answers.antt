use Rattle.listing_json.proofs.Joined.{documents-joined}
use Rattle.listing_json.proofs.laws.documents_are_joined.Goals as goal

pub returns : goal.returns
returns c = documents-joined
