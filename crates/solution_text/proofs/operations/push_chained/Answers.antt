use Rattle.solution_text.specs.Operations.{op_line}
use Rattle.solution_text.proofs.Loops.{numbered-more}
use Rattle.solution_text.proofs.operations.push_chained.Goals as goal

pub loop-op-preserved : goal.loop-op-preserved
loop-op-preserved c = numbered-more (op_line c.args.solution.now) c.args.text.now.items c.loop-op.text.items c.push_op.new.text.items c.loop-op.op c.loop-op.invariant c.in_ok-push_op.ensures.ok
