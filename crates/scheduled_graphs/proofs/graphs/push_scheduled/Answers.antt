use Rattle.std.proofs.lemmas.Result.{on_ok_weaker}
use Rattle.scheduled_graphs.proofs.Drawing.{scheduled}
use Rattle.scheduled_graphs.proofs.graphs.push_scheduled.Goals as goal

pub returns : goal.returns
returns c = record {
  ok = on_ok_weaker c.push_piece.result
      (λ last. scheduled c.args.schedule.now c.prepared.result.now c.args.circuit.now c.args.text.now.items c.push_scheduled_head.new.text.items c.push_all_placed.new.text.items
      c.push_arrows.new.text.items c.push_piece.new.self.items c.prepared.ensures.value c.in_ok-push_scheduled_head.ensures.ok c.in_ok-push_all_placed.ensures.ok
      c.in_ok-push_arrows.ensures.ok last)
      c.push_piece.ensures.ok;
}
