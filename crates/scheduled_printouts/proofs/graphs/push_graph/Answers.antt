use Rattle.scheduled_printouts.proofs.Trying.{drawn-of}
use Rattle.scheduled_printouts.proofs.graphs.push_graph.Goals as goal

pub returns : goal.returns
returns c =
    drawn-of c.args.prepared.now c.in_ok-tried.tried c.is_met.result c.args.text.now.items c.push_drawn.new.text.items c.in_ok-tried.ensures c.is_met.ensures c.in_ok-push_drawn.ensures.ok
