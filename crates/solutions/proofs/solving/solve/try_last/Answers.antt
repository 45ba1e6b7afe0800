use Rattle.std.proofs.Common.{◌≡◌, ◌+◌, ap, ◌∙◌, sym, subst, arith}
use Rattle.schedules.specs.Problems.{ProblemData as SchedulingData, mii_of}
use Rattle.problems.specs.Problems.{ProblemData}
use Rattle.solutions.specs.Failures.{FailsFor}
use Rattle.solutions.specs.Outcomes.{Gives, first_of, last_of}
use Rattle.solutions.specs.Told.{IsSearched}
use Rattle.solutions.specs.Trying.{IsTried}
use Rattle.solutions.proofs.Searching.{first-met, searched-met, searched-unmet}
use Rattle.solutions.proofs.solving.solve.try_last.Goals as goal

pub returns-in-Ok-Met : goal.returns-in-Ok-Met
returns-in-Ok-Met c =
    let p = c.args.problem.now in
    let ii = c.mii.result + c.ceiling.result in
    let scheduled = c.scheduling-scheduling.ensures.value in
    let is = c.scheduling-scheduling.ensures.well_formed in
    let first : c.mii.result ≡ first_of p = c.mii.ensures.value ∙ ap mii_of scheduled in
    let ceiling : c.ceiling.result ≡ p.scheduling.ceiling = c.ceiling.ensures.value ∙ ap (λ (q : SchedulingData). q.ceiling) scheduled in
    let tried = subst (λ (q : ProblemData). IsTried q ii c.in-Ok-Met.field-0) c.requires.same c.in-Ok-Met.ensures.exact in
    let gives : Gives p ii c.in-Ok-Met.solution = subst (IsTried p ii) c.in-Ok-Met.field-0-is tried in
    let last : Gives p (c.mii.result + p.scheduling.ceiling) c.in-Ok-Met.solution = subst (λ n. Gives p (c.mii.result + n) c.in-Ok-Met.solution) ceiling gives in
    subst (IsSearched p) (sym c.met.ensures)
    (searched-met p c.in-Ok-Met.solution (first-met p p.scheduling.ceiling c.mii.result c.in-Ok-Met.solution is first c.requires.none last (omega arith)))

pub returns-in-Ok-Failed : goal.returns-in-Ok-Failed
returns-in-Ok-Failed c =
    let p = c.args.problem.now in
    let ii = c.mii.result + c.ceiling.result in
    let scheduled = c.scheduling-scheduling.ensures.value in
    let first : c.mii.result ≡ first_of p = c.mii.ensures.value ∙ ap mii_of scheduled in
    let ceiling : c.ceiling.result ≡ p.scheduling.ceiling = c.ceiling.ensures.value ∙ ap (λ (q : SchedulingData). q.ceiling) scheduled in
    let last : ii ≡ last_of p = omega arith in
    let tried = subst (λ (q : ProblemData). IsTried q ii c.in-Ok-Failed.field-0) c.requires.same c.in-Ok-Failed.ensures.exact in
    let fails : FailsFor p ii c.in-Ok-Failed.failure = subst (IsTried p ii) c.in-Ok-Failed.field-0-is tried in
    searched-unmet p c.in-Ok-Failed.failure c.scheduling-scheduling.ensures.well_formed c.requires.none (subst (λ n. FailsFor p n c.in-Ok-Failed.failure) last fails)
