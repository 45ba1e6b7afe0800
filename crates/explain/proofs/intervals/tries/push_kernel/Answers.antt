use Rattle.std.proofs.lemmas.Result.{on_ok_weaker}
use Rattle.writing.proofs.Beginnings.{two_pushed}
use Rattle.explain.proofs.intervals.tries.push_kernel.Goals as goal

pub returns : goal.returns
returns c = record {
  ok = on_ok_weaker c.push_piece.result
      (λ last. two_pushed c.args.text.now.items _ _ c.push_told-2.new.text.items c.push_piece.new.self.items
      (two_pushed c.args.text.now.items _ _ c.push_told.new.text.items c.push_told-2.new.text.items c.in_ok-push_told.ensures.ok c.in_ok-push_told-2.ensures.ok) last)
      c.push_piece.ensures.ok;
}
