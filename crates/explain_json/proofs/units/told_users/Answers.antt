use Rattle.std.proofs.Common.{ℕ, [], ◌++◌, ◌∙◌, ap, map}
use Rattle.serde_json.specs.View.{view}
use Rattle.explain_json.specs.Units.{use_by, user_objects}
use Rattle.explain_json.proofs.Lists.{several-more}
use Rattle.explain_json.proofs.units.told_users.Goals as goal

pub loop-op-preserved : goal.loop-op-preserved
loop-op-preserved c =
    several-more (λ (op : ℕ). user_objects op (use_by c.args.prepared.now c.args.choices.now c.args.unit op)) c.loop-op.op [] (map view c.loop-op.values.items) (map view c.push_user.new.values.items)
    c.loop-op.invariant
    (c.in_ok-push_user.ensures.ok ∙ ap (λ (uses : ℕ). map view c.loop-op.values.items ++ user_objects c.loop-op.op uses) c.use_by.ensures.value)
