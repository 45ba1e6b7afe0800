use Rattle.solution_text.specs.Values.{value_line}
use Rattle.solution_text.proofs.Loops.{numbered-more}
use Rattle.solution_text.proofs.values.push_values.Goals as goal

pub loop-value-preserved : goal.loop-value-preserved
loop-value-preserved c = numbered-more (value_line c.args.solution.now) c.args.text.now.items c.loop-value.text.items c.push_value.new.text.items c.loop-value.value c.loop-value.invariant c.in_ok-push_value.ensures.ok
