use Rattle.std.proofs.Common.{ap}
use Rattle.serde_json.specs.View.{members_view}
use Rattle.listing_json.proofs.told.told_one.Goals as goal

pub returns : goal.returns
returns c d has = c.object_of.ensures _ (c.with.ensures _ _ (ap members_view c.new.ensures.empty) has)
