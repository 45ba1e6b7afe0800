use Rattle.std.proofs.Common.{◌∙◌, ap}
use Rattle.serde_json.specs.View.{members_view}
use Rattle.explain_json.specs.Parts.{count_value}
use Rattle.explain_json.proofs.kernels.told_figures.Goals as goal

pub returns : goal.returns
returns c d percents =
    let cycles = c.with_value-members.ensures _ _ (ap members_view c.new.ensures.empty) c.from.ensures in
    let turns = c.with_value-members-2.ensures _ _ cycles (c.from-turns.ensures ∙ ap count_value c.saturating_sub.ensures) in
    let need = c.with_value-members-3.ensures _ _ turns c.told_need.ensures in
    c.object_of.ensures _ (c.with.ensures _ _ need percents)
