use Rattle.std.proofs.Common.{subst, arith, ◌+◌, ◌≤◌, ◌∙◌}
use Rattle.loop_schedules.specs.Problems.{mii_of}
use Rattle.candidates.specs.Outcomes.{Gives}
use Rattle.collecting.proofs.Climbing.{climbed_on, met_here, count_met, unmet_here}
use Rattle.collecting.proofs.climbs.climb.Goals as goal

pub returns-in-Met-clause-choice : goal.returns-in-Met-clause-choice
returns-in-Met-clause-choice c =
    let few : c.loop-above.above ≤ c.args.prepared.now.ceiling = (let e = c.ceiling-above-end.ensures.value in let t = c.loop-above-test.true in omega arith) in
    met_here c.args.prepared.now c.args.row.now c.loop-above.row c.loop-above.above c.loop-above.retried c.mii.result c.loop-above.last c.in-Met.kernel c.loop-above.invariant.climbed
    (subst (Gives c.args.prepared.now (mii_of c.args.prepared.now + c.loop-above.above)) c.in-Met.is c.in-Ok.ensures.gives) few c.mii.ensures.value

pub returns-in-Met-clause-retried : goal.returns-in-Met-clause-retried
returns-in-Met-clause-retried c =
    count_met c.args.prepared.now c.args.row.now c.loop-above.row c.loop-above.above c.loop-above.retried c.in-Ok.settled.1 c.mii.result c.loop-above.last c.loop-above.invariant.climbed c.in-Ok.ensures.tries c.mii.ensures.value

pub loop-above-preserved : goal.loop-above-preserved
loop-above-preserved c = record {
  same = c.settle.ensures.same_loop ∙ c.loop-above.invariant.same;
  climbed = climbed_on c.args.prepared.now c.args.row.now c.loop-above.row c.settle.new.row c.loop-above.above c.loop-above.retried c.in-Ok.settled.1 c.loop-above.last c.in-Failed.cause c.ceiling-above-end.ensures.well_formed
      c.loop-above.invariant.climbed (subst (Gives c.args.prepared.now (mii_of c.args.prepared.now + c.loop-above.above)) c.in-Failed.is c.in-Ok.ensures.gives) c.settle.ensures.row c.in-Ok.ensures.tries;
}

pub returns-clause-choice : goal.returns-clause-choice
returns-clause-choice c =
    unmet_here c.args.prepared.now c.args.row.now c.loop-above.row c.loop-above.above c.loop-above.retried c.loop-above.last c.loop-above.invariant.climbed
    (let e = c.ceiling-above-end.ensures.value in let t = c.loop-above-test.false in let u = c.loop-above.auto.above-end in omega arith)
