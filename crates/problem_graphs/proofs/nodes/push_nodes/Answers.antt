use Rattle.problem_graphs.specs.Nodes.{node_line}
use Rattle.lower_bounds.proofs.Texts.{numbered-more}
use Rattle.problem_graphs.proofs.nodes.push_nodes.Goals as goal

pub loop-op-preserved : goal.loop-op-preserved
loop-op-preserved c =
    numbered-more (node_line c.args.draft.now) c.args.text.now.items c.loop-op.text.items c.push_node.new.text.items c.loop-op.op c.loop-op.invariant c.in_ok-push_node.ensures.ok
