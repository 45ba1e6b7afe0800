use Rattle.std.proofs.lemmas.Result.{on_ok_weaker}
use Rattle.scheduled_graphs.proofs.Drawing.{unscheduled}
use Rattle.scheduled_graphs.proofs.graphs.push_unscheduled.Goals as goal

pub returns : goal.returns
returns c = record {
  ok = on_ok_weaker c.push_piece.result
      (λ last. unscheduled c.args.prepared.now c.innermost.result.now c.args.circuit.now c.args.cause c.args.text.now.items c.push_unscheduled_head.new.text.items c.push_nodes.new.text.items
      c.push_arrows.new.text.items c.push_piece.new.self.items c.innermost.ensures.value c.in_ok-push_unscheduled_head.ensures.ok c.in_ok-push_nodes.ensures.ok
      c.in_ok-push_arrows.ensures.ok last)
      c.push_piece.ensures.ok;
}
