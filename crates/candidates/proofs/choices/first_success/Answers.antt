use Rattle.std.proofs.Common.{◌+◌, ◌≤◌, ◌∙◌, subst, arith}
use Rattle.loop_schedules.specs.Problems.{ProblemData}
use Rattle.candidates.specs.Outcomes.{FailsBy, Gives}
use Rattle.candidates.proofs.Rising.{met_here, risen_on, unmet_here}
use Rattle.candidates.proofs.choices.first_success.Goals as goal

pub returns-in-Ok-Met : goal.returns-in-Ok-Met
returns-in-Ok-Met c =
    let i = c.loop-above.invariant in
    let few : c.loop-above.above ≤ c.args.prepared.now.ceiling = (let e = c.ceiling-above-end.ensures.value in let t = c.loop-above-test.true in omega arith) in
    let gives = subst (λ (p : ProblemData). Gives p (c.mii.result + c.loop-above.above) c.in-Ok-Met.field-0) i.same c.in-Ok-Met.ensures.exact in
    record { exact = met_here c.args.prepared.now c.loop-above.above c.mii.result c.loop-above.last c.in-Ok-Met.kernel i.risen (subst (Gives c.args.prepared.now (c.mii.result + c.loop-above.above)) c.in-Ok-Met.field-0-is gives) few c.mii.ensures.value }

pub loop-above-preserved : goal.loop-above-preserved
loop-above-preserved c =
    let i = c.loop-above.invariant in
    let gives = subst (λ (p : ProblemData). Gives p (c.mii.result + c.loop-above.above) c.in-Ok-Failed.field-0) i.same c.in-Ok-Failed.ensures.exact in
    record {
      same = c.try_interval.ensures.same ∙ i.same;
      risen = risen_on c.args.prepared.now c.loop-above.above c.loop-above.last c.in-Ok-Failed.cause c.mii.ensures.well_formed i.risen
          (subst (λ m. FailsBy c.args.prepared.now (m + c.loop-above.above) c.in-Ok-Failed.cause) c.mii.ensures.value
          (subst (Gives c.args.prepared.now (c.mii.result + c.loop-above.above)) c.in-Ok-Failed.field-0-is gives));
    }

pub returns : goal.returns
returns c = record {
  exact = unmet_here c.args.prepared.now c.loop-above.above c.loop-above.last c.loop-above.invariant.risen
      (let e = c.ceiling-above-end.ensures.value in let t = c.loop-above-test.false in let u = c.loop-above.auto.above-end in omega arith);
}
