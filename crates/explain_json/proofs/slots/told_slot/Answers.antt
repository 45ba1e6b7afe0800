use Rattle.std.proofs.Common.{ap}
use Rattle.serde_json.specs.View.{members_view}
use Rattle.explain_json.proofs.slots.told_slot.Goals as goal

pub returns : goal.returns
returns c =
    let operation = c.with_value-members.ensures _ _ (ap members_view c.new.ensures.empty) c.from.ensures in
    let row = c.with_value-members-2.ensures _ _ operation c.from-2.ensures in
    c.object_of.ensures _ (c.with_value.ensures _ _ row c.from-3.ensures)
