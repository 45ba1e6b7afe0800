use Rattle.problem_graphs.specs.Edges.{op_line}
use Rattle.lower_bounds.proofs.Texts.{numbered-more}
use Rattle.problem_graphs.proofs.edge_lines.push_ops.Goals as goal

pub loop-op-preserved : goal.loop-op-preserved
loop-op-preserved c =
    numbered-more (op_line c.args.problem.now c.args.heights.now) c.args.text.now.items c.loop-op.text.items c.push_op.new.text.items c.loop-op.op c.loop-op.invariant c.in_ok-push_op.ensures.ok
