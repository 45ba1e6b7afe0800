use Rattle.std.proofs.Common.{◌≡◌, ◌+◌, ◌≤◌, List, sym, ap, ◌∙◌, subst, arith}
use Rattle.schedules.specs.Problems.{ProblemData as SchedulingData, mii_of}
use Rattle.problems.specs.Problems.{ProblemData}
use Rattle.solutions.specs.declared.solving.outcome.Cause.TheVariants.{Table}
use Rattle.solutions.specs.declared.solving.tried.Failure.{Failure}
use Rattle.solutions.specs.Failures.{FailsFor}
use Rattle.solutions.specs.Outcomes.{Gives, first_of}
use Rattle.solutions.specs.Trying.{IsTried}
use Rattle.solutions.proofs.Telling.{AreTold, told-met, told-more, told-none, told-unmet}
use Rattle.solutions.proofs.solving.told.tell_each.Goals as goal

pub loop-above-init : goal.loop-above-init
loop-above-init c = record {
  same = c.requires;
  told = subst (λ (failures : List Failure). AreTold c.args.problem.now 0 Table failures) (sym c.new-failures.ensures.items) (told-none c.args.problem.now Table);
}

pub returns-in-Ok-Met : goal.returns-in-Ok-Met
returns-in-Ok-Met c =
    let p = c.args.problem.now in
    let at = c.loop-above in
    let ii = c.mii-mii.result + at.above in
    let scheduled = c.scheduling-scheduling.ensures.value in
    let ceiling : c.ceiling-ceiling.result ≡ p.scheduling.ceiling = c.ceiling-ceiling.ensures.value ∙ ap (λ (q : SchedulingData). q.ceiling) scheduled in
    let first : c.mii-mii.result ≡ first_of p = c.mii-mii.ensures.value ∙ ap mii_of scheduled in
    let few : at.above ≤ p.scheduling.ceiling = (let t = c.loop-above-test.true in omega arith) in
    let tried = subst (λ (q : ProblemData). IsTried q ii c.in-Ok-Met.field-0) at.invariant.same c.in-Ok-Met.ensures.exact in
    let gives : Gives p ii c.in-Ok-Met.solution = subst (IsTried p ii) c.in-Ok-Met.field-0-is tried in
    record { told = told-met p at.above c.mii-mii.result at.last at.failures c.in-Ok-Met.solution c.scheduling-scheduling.ensures.well_formed first at.invariant.told gives few }

pub loop-above-preserved : goal.loop-above-preserved
loop-above-preserved c =
    let p = c.args.problem.now in
    let at = c.loop-above in
    let ii = c.mii-mii.result + at.above in
    let first : c.mii-mii.result ≡ first_of p = c.mii-mii.ensures.value ∙ ap mii_of c.scheduling-scheduling.ensures.value in
    let tried = subst (λ (q : ProblemData). IsTried q ii c.in-Ok-Failed.field-0) at.invariant.same c.in-Ok-Failed.ensures.exact in
    let fails : FailsFor p ii c.in-Ok-Failed.failure = subst (IsTried p ii) c.in-Ok-Failed.field-0-is tried in
    record {
      same = c.try_told.ensures.same ∙ at.invariant.same;
      told = subst (λ (failures : List Failure). AreTold p (at.above + 1) c.in-Ok-Failed.failure.cause failures) (sym c.in_ok-push-in-Ok-Failed.ensures.items)
          (told-more p at.above c.mii-mii.result at.last c.in-Ok-Failed.failure at.failures.items c.scheduling-scheduling.ensures.well_formed first at.invariant.told fails);
    }

pub returns : goal.returns
returns c =
    let p = c.args.problem.now in
    let ceiling : c.ceiling-ceiling.result ≡ p.scheduling.ceiling
    = c.ceiling-ceiling.ensures.value ∙ ap (λ (q : SchedulingData). q.ceiling) c.scheduling-scheduling.ensures.value in
    record {
      told = told-unmet p c.loop-above.above c.loop-above.last c.loop-above.failures c.loop-above.invariant.told
          (let t = c.loop-above-test.false in let u = c.loop-above.auto.above-end in omega arith);
    }
