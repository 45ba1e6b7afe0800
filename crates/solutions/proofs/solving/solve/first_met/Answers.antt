use Rattle.std.proofs.Common.{◌≡◌, ◌+◌, ◌≤◌, ap, ◌∙◌, subst, arith}
use Rattle.schedules.specs.Problems.{ProblemData as SchedulingData, mii_of}
use Rattle.problems.specs.Problems.{ProblemData}
use Rattle.solutions.specs.Outcomes.{Gives, first_of}
use Rattle.solutions.specs.Trying.{IsMet}
use Rattle.solutions.specs.inner.Searching.{NoneBefore}
use Rattle.solutions.proofs.Searching.{Fails, first-met, none-first, none-more}
use Rattle.solutions.proofs.solving.solve.first_met.Goals as goal

pub loop-above-init : goal.loop-above-init
loop-above-init c = record { same = c.requires; none = none-first c.args.problem.now }

pub loop-above-preserved : goal.loop-above-preserved
loop-above-preserved c =
    let p = c.args.problem.now in
    let at = c.loop-above in
    let ii = c.mii-mii.result + at.above in
    let first : c.mii-mii.result ≡ first_of p = c.mii-mii.ensures.value ∙ ap mii_of c.scheduling-scheduling.ensures.value in
    let tried = subst (λ (q : ProblemData). IsMet q ii c.in-Ok-None.field-0) at.invariant.same c.in-Ok-None.ensures.exact in
    let fails : Fails p ii = subst (IsMet p ii) c.in-Ok-None.field-0-is tried in
    record {
      same = c.try_met.ensures.same ∙ at.invariant.same;
      none = none-more p at.above c.mii-mii.result c.scheduling-scheduling.ensures.well_formed first at.invariant.none fails;
    }

pub returns-in-Ok-Some : goal.returns-in-Ok-Some
returns-in-Ok-Some c =
    let p = c.args.problem.now in
    let at = c.loop-above in
    let ii = c.mii-mii.result + at.above in
    let scheduled = c.scheduling-scheduling.ensures.value in
    let ceiling : c.ceiling-ceiling.result ≡ p.scheduling.ceiling = c.ceiling-ceiling.ensures.value ∙ ap (λ (q : SchedulingData). q.ceiling) scheduled in
    let first : c.mii-mii.result ≡ first_of p = c.mii-mii.ensures.value ∙ ap mii_of scheduled in
    let few : at.above ≤ p.scheduling.ceiling = (let t = c.loop-above-test.true in omega arith) in
    let tried = subst (λ (q : ProblemData). IsMet q ii c.in-Ok-Some.field-0) at.invariant.same c.in-Ok-Some.ensures.exact in
    let gives : Gives p ii c.in-Ok-Some.solution = subst (IsMet p ii) c.in-Ok-Some.field-0-is tried in
    record {
      same = c.try_met.ensures.same ∙ at.invariant.same;
      found = first-met p at.above c.mii-mii.result c.in-Ok-Some.solution c.scheduling-scheduling.ensures.well_formed first at.invariant.none gives few;
    }

pub returns : goal.returns
returns c =
    let p = c.args.problem.now in
    let at = c.loop-above in
    let ceiling : c.ceiling-ceiling.result ≡ p.scheduling.ceiling = c.ceiling-ceiling.ensures.value ∙ ap (λ (q : SchedulingData). q.ceiling) c.scheduling-scheduling.ensures.value in
    let end : at.above ≡ p.scheduling.ceiling = (let t = c.loop-above-test.false in let u = at.auto.above-end in omega arith) in
    record { same = at.invariant.same; found = subst (λ n. NoneBefore p (first_of p + n)) end at.invariant.none }
