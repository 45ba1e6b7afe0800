use Rattle.std.proofs.Common.{[], sym, subst}
use Rattle.std.proofs.lemmas.List.{append-nil}
use Rattle.loop_schedules.specs.Problems.{ProblemData}
use Rattle.scheduled_printouts.specs.Graphs.{IsDrawn}
use Rattle.scheduled_printouts.proofs.Drawing.{drawn-next, drawn-none}
use Rattle.scheduled_printouts.proofs.graphs.push_all.Goals as goal

pub loop-one-init : goal.loop-one-init
loop-one-init c = ([], drawn-none, sym (append-nil c.args.text.now.items))

pub loop-one-preserved : goal.loop-one-preserved
loop-one-preserved c =
    let drawn = c.in_ok-met.ensures in
    drawn-next c.args.prepared.now c.loop-one.one-index c.one-item.result c.args.text.now.items c.loop-one.text.items c.push_graph.new.text.items c.loop-one.invariant.0 c.loop-one.all_met
    c.in_ok-met.met c.both-all_met.result drawn.0 c.loop-one-test.true c.loop-one.invariant.1 c.loop-one.invariant.2 (subst (λ (p : ProblemData). IsDrawn p drawn.0) c.one-item.is drawn.1) drawn.2 drawn.3 c.both-all_met.ensures
