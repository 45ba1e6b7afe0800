use Rattle.explain_json.specs.Operations.{placed_object}
use Rattle.explain_json.proofs.Lists.{numbered-more}
use Rattle.explain_json.proofs.operations.told_scheduled.Goals as goal

pub loop-op-preserved : goal.loop-op-preserved
loop-op-preserved c =
    numbered-more (placed_object c.args.prepared.now c.args.heights.now c.args.schedule.now c.args.slacks.now) c.loop-op.values.items c.push.new.self.items c.in_ok-told_placed.field-0 c.loop-op.op c.loop-op.invariant
    c.in_ok-told_placed.ensures c.in_ok-push.ensures.items
