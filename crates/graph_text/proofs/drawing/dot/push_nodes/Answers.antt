use Rattle.graph_text.specs.Dot.{node_line}
use Rattle.lower_bounds.proofs.Texts.{numbered-more}
use Rattle.graph_text.proofs.drawing.dot.push_nodes.Goals as goal

pub loop-number-preserved : goal.loop-number-preserved
loop-number-preserved c =
    numbered-more (node_line c.args.innermost.now) c.args.text.now.items c.loop-number.text.items c.push_node.new.text.items c.loop-number.number c.loop-number.invariant c.in_ok-push_node.ensures.ok
