use Rattle.solution_text.specs.Texts.{named}
use Rattle.solution_text.proofs.Loops.{listed-more}
use Rattle.solution_text.proofs.failures.push_all_named.Goals as goal

pub loop-op-preserved : goal.loop-op-preserved
loop-op-preserved c =
    listed-more (named c.args.draft.now) c.args.text.now.items c.loop-op.text.items c.push_named.new.text.items c.args.ops.now c.loop-op.op-index 0
    c.loop-op-test.true c.loop-op.invariant c.in_ok-push_named.ensures.ok
