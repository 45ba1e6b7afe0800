use Rattle.solution_json.specs.Values.{value_object}
use Rattle.solution_json.proofs.Lists.{numbered-more}
use Rattle.solution_json.proofs.values.told_values.Goals as goal

pub loop-value-preserved : goal.loop-value-preserved
loop-value-preserved c =
    numbered-more (value_object c.args.solution.now) c.loop-value.values.items c.push.new.self.items c.in_ok-told_value.field-0 c.loop-value.value c.loop-value.invariant c.in_ok-told_value.ensures
    c.in_ok-push.ensures.items
