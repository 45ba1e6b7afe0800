use Rattle.std.proofs.Common.{◌==◌, ◌∙◌, ℕ, ap}
use Rattle.serde_json.specs.Data.{boolean}
use Rattle.serde_json.specs.View.{members_view}
use Rattle.explain_json.proofs.units.told_unit.Goals as goal

pub returns : goal.returns
returns c =
    let full = c.with_value-members.ensures _ _ (ap members_view c.new.ensures.empty) (c.from-full.ensures ∙ ap (λ (n : ℕ). boolean (c.args.uses == n)) c.resources.ensures.value) in
    let name = c.with-members.ensures _ _ full c.told_unit_name-name.ensures in
    let users = c.with-members-2.ensures _ _ name c.told_users-users.ensures in
    c.object_of.ensures _ (c.with_value.ensures _ _ users c.from.ensures)
