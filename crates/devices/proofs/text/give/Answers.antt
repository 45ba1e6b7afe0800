use Rattle.std.proofs.Common.{◌∙◌}
use Rattle.std.proofs.lemmas.List.{take_rest}
use Rattle.devices.proofs.TextLemmas.{Written-write}
use Rattle.devices.proofs.text.give.Goals as goal

pub loop-rest-preserved : goal.loop-rest-preserved
loop-rest-preserved g c = record {
  written = Written-write _ _ _ _ _ _ c.in_ok-n.n c.loop-rest.invariant.written c.in_ok-n.ensures.writes (take_rest c.loop-rest.rest.now c.in_ok-n.n);
  fine = c.in_ok-n.ensures.fine ∙ c.loop-rest.invariant.fine;
}
