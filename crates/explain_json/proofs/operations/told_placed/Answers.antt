use Rattle.std.proofs.Common.{rules, ◌≡◌, ◌∙◌, ap}
use Rattle.std.specs.Prelude.{slice_index}
use Rattle.serde_json.specs.View.{view}
use Rattle.loop_schedules.specs.Schedules.{row_of, stage_of}
use Rattle.explain_json.specs.Parts.{count_value}
use Rattle.explain_json.specs.inner.Objects.{operation_members}
use Rattle.explain_json.proofs.operations.told_placed.Goals as goal

pub returns : goal.returns
unfolding operation_members
returns c =
    let schedule = c.args.schedule.now in
    let op = c.args.op in
    let in-row : view c.from-row.result ≡ count_value (row_of schedule op) = search rules in
    let in-stage : view c.from-stage.result ≡ count_value (stage_of schedule op) = search rules in
    let at : view c.from-2.result ≡ count_value (slice_index schedule.times op) = search rules in
    let alternative = c.with_value-members.ensures _ _ c.members_of-members.ensures (c.from-alternative.ensures ∙ ap count_value c.alternative.ensures.value) in
    let row = c.with_value-members-2.ensures _ _ alternative in-row in
    let slack = c.with_value-members-3.ensures _ _ row c.from.ensures in
    let stage = c.with_value-members-4.ensures _ _ slack in-stage in
    c.object_of.ensures _ (c.with_value.ensures _ _ stage at)
