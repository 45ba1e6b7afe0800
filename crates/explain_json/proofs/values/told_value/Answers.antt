use Rattle.std.proofs.Common.{ap}
use Rattle.serde_json.specs.View.{members_view}
use Rattle.explain_json.proofs.values.told_value.Goals as goal

pub returns : goal.returns
returns c =
    let first = c.with_value-members.ensures _ _ (ap members_view c.new.ensures.empty) c.from.ensures in
    let last = c.with_value-members-2.ensures _ _ first c.from-2.ensures in
    let operation = c.with_value-members-3.ensures _ _ last c.from-3.ensures in
    c.object_of.ensures _ (c.with_value.ensures _ _ operation c.from-4.ensures)
