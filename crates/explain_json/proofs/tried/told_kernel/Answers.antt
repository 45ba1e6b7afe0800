use Rattle.std.proofs.Common.{ap}
use Rattle.serde_json.specs.View.{members_view}
use Rattle.explain_json.proofs.tried.told_kernel.Goals as goal

pub returns : goal.returns
returns c =
    let interval = c.with_value-members.ensures _ _ (ap members_view c.new.ensures.empty) c.from.ensures in
    let outcome = c.with-members.ensures _ _ interval c.to_value.ensures in
    c.object_of.ensures _ (c.with_value.ensures _ _ outcome c.from-2.ensures)
