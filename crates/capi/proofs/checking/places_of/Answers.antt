use Rattle.std.proofs.Common.{◌∙◌, arith}
use Rattle.capi.proofs.Placing.{places_more, places_all}
use Rattle.capi.proofs.checking.places_of.Goals as goal

pub loop-op-preserved : goal.loop-op-preserved
loop-op-preserved c = c.in_ok-push.ensures.items ∙ places_more c.loop-op.made.items c.args.times.now c.args.alternatives.now c.loop-op.op c.requires (omega arith) c.loop-op.invariant

pub returns : goal.returns
returns c = places_all c.loop-op.made.items c.args.times.now c.args.alternatives.now c.loop-op.op (omega arith) c.loop-op.invariant
