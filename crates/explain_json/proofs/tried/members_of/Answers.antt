use Rattle.std.proofs.Common.{ap}
use Rattle.serde_json.specs.View.{members_view}
use Rattle.explain_json.proofs.tried.members_of.Goals as goal

pub returns : goal.returns
returns c =
    let interval = c.with_value-members.ensures _ _ (ap members_view c.new.ensures.empty) c.from.ensures in
    let operations = c.with-members.ensures _ _ interval c.told_numbers.ensures in
    c.with.ensures _ _ operations c.to_value.ensures
