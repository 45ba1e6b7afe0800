use Rattle.std.proofs.Common.{ℕ, [], ◌++◌, ◌∙◌, ap, map}
use Rattle.serde_json.specs.View.{view}
use Rattle.explain_json.specs.Units.{unit_objects, uses_of}
use Rattle.explain_json.proofs.Lists.{several-more}
use Rattle.explain_json.proofs.units.told_units.Goals as goal

pub loop-unit-preserved : goal.loop-unit-preserved
loop-unit-preserved c =
    let p = c.args.prepared.now in
    several-more (λ (unit : ℕ). unit_objects c.args.machine.now p c.args.choices.now unit (uses_of p c.args.choices.now unit)) c.loop-unit.unit [] (map view c.loop-unit.values.items)
    (map view c.push_unit.new.values.items) c.loop-unit.invariant
    (c.in_ok-push_unit.ensures.ok ∙ ap (λ (uses : ℕ). map view c.loop-unit.values.items ++ unit_objects c.args.machine.now p c.args.choices.now c.loop-unit.unit uses) c.uses_of-uses.ensures)
