use Rattle.solution_text.proofs.Joining.{joined-more}
use Rattle.solution_text.proofs.parts.push_parts.Goals as goal

pub loop-part-preserved : goal.loop-part-preserved
loop-part-preserved c =
    joined-more c.args.draft.now c.args.text.now.items c.loop-part.text.items c.push_part.new.text.items c.args.parts.now c.loop-part.part-index _ c.loop-part-test.true
    c.loop-part.invariant c.in_ok-push_part.ensures.ok
