use Rattle.std.proofs.Common.{ap}
use Rattle.serde_json.specs.View.{members_view}
use Rattle.explain_json.proofs.units.told_set.Goals as goal

pub returns : goal.returns
returns c =
    let need = c.with_value-members.ensures _ _ (ap members_view c.new.ensures.empty) c.from.ensures in
    let rows = c.with_value-members-2.ensures _ _ need c.from-2.ensures in
    c.object_of.ensures _ (c.with.ensures _ _ rows c.told_members.ensures)
