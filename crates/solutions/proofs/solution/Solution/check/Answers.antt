use Rattle.std.proofs.Common.{ap, ◌∙◌, subst}
use Rattle.schedules.specs.Problems.{ProblemData as SchedulingData}
use Rattle.schedules.specs.Schedules.{as_listed}
use Rattle.problems.specs.declared.draft.Draft.{Draft}
use Rattle.solutions.specs.Breaks.{AreRight}
use Rattle.solutions.proofs.Judged.{judged}
use Rattle.solutions.proofs.solution.Solution.check.Goals as goal

pub returns-in-Ok : goal.returns-in-Ok
returns-in-Ok c =
    let p = c.args.problem.now in
    let placed = rw c.in-Ok.is at c.in_ok-breach.ensures.exact in
    let right : AreRight p.draft c.args.ii c.args.numbers.now = subst (λ (d : Draft). AreRight d c.args.ii c.args.numbers.now) c.draft.ensures.value c.in_default.ensures in
    record {
      exact = judged p c.args.ii c.args.places.now c.args.numbers.now c.in-Ok.schedule c.in_registers.result right placed.0
          (placed.1 ∙ ap (λ (q : SchedulingData). as_listed q c.args.ii c.args.places.now) c.scheduling.ensures.value) c.in_registers.ensures;
    }
