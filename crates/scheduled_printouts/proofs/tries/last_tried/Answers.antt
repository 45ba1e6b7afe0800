use Rattle.std.proofs.Common.{◌≡◌, ◌+◌, ◌≤◌, ap, ap₂, sym, ◌∙◌, subst, arith}
use Rattle.std.proofs.lemmas.Result.{IfOk-weaker}
use Rattle.loop_schedules.specs.Problems.{ProblemData, mii_of}
use Rattle.told_intervals.specs.Reasons.{IsTried, reason_cause}
use Rattle.scheduled_printouts.proofs.Trying.{failed-of, last-of, met-of}
use Rattle.scheduled_printouts.proofs.tries.last_tried.Goals as goal

pub returns-in-Ok-Met : goal.returns-in-Ok-Met
returns-in-Ok-Met c =
    let p = c.args.prepared.now in
    let i = c.loop-above.invariant in
    let ii = c.mii.result + c.loop-above.above in
    let few : c.loop-above.above ≤ p.ceiling = (let e = c.ceiling-above-end.ensures.value in let t = c.loop-above-test.true in omega arith) in
    let tried = subst (λ (q : ProblemData). IsTried q ii c.in-Ok-Met.field-0) i.same c.in-Ok-Met.ensures.exact in
    met-of p c.loop-above.above ii i.risen.0 c.in-Ok-Met.met i.risen.1 few (ap (λ m. m + c.loop-above.above) c.mii.ensures.value) (subst (IsTried p ii) c.in-Ok-Met.field-0-is tried)

pub loop-above-preserved : goal.loop-above-preserved
loop-above-preserved c =
    let p = c.args.prepared.now in
    let i = c.loop-above.invariant in
    let ii = c.mii.result + c.loop-above.above in
    let tried = subst (λ (q : ProblemData). IsTried q ii c.in-Ok-Failed.field-0) i.same c.in-Ok-Failed.ensures.exact in
    record {
      same = c.try_told.ensures.same ∙ i.same;
      risen = (
        reason_cause c.in-Ok-Failed.field-0-0,
        failed-of p c.loop-above.above ii i.risen.0 c.in-Ok-Failed.field-0-0 c.mii.ensures.well_formed i.risen.1 (ap (λ m. m + c.loop-above.above) c.mii.ensures.value)
            (subst (IsTried p ii) c.in-Ok-Failed.field-0-is tried),
      );
    }

pub returns : goal.returns
returns c =
    let p = c.args.prepared.now in
    let i = c.loop-above.invariant in
    let ii = c.mii-2.result + c.ceiling.result in
    let end : c.loop-above.above ≡ p.ceiling = (let e = c.ceiling-above-end.ensures.value in let t = c.loop-above-test.false in let u = c.loop-above.auto.above-end in omega arith) in
    IfOk-weaker c.try_told-2.result _ _
    (λ tried is. last-of p c.loop-above.above ii i.risen.0 tried c.mii-2.ensures.well_formed i.risen.1 end
    (ap₂ (λ m n. m + n) c.mii-2.ensures.value c.ceiling.ensures.value ∙ ap (λ n. mii_of p + n) (sym end)) (subst (λ (q : ProblemData). IsTried q ii tried) i.same is))
    c.try_told-2.ensures.exact
