use Rattle.solution_text.specs.Values.{initials_of}
use Rattle.solution_text.proofs.Loops.{numbered-more}
use Rattle.solution_text.proofs.values.push_carried.Goals as goal

pub loop-value-preserved : goal.loop-value-preserved
loop-value-preserved c = numbered-more (initials_of c.args.solution.now) c.args.text.now.items c.loop-value.text.items c.push_initials_of.new.text.items c.loop-value.value c.loop-value.invariant c.in_ok-push_initials_of.ensures.ok
