use Rattle.std.proofs.Common.{◌≡◌, ℕ, Some, ap, ◌∙◌, sym, subst}
use Rattle.std.specs.Prelude.{IfOk}
use Rattle.modulo.specs.Culprits.{AnswersCulprit, IsAnswer}
use Rattle.schedules.specs.Problems.{ProblemData as SchedulingData}
use Rattle.problems.specs.Problems.{ProblemData}
use Rattle.solutions.specs.Trying.{IsTried}
use Rattle.solutions.proofs.Blamed.{blamed-by, culprit-of}
use Rattle.solutions.proofs.solving.trials.Trials.try_told.Goals.{in-Placed, in-Failed}
use Rattle.solutions.proofs.solving.trials.Trials.try_told.Goals as goal

pub returns-clause-exact : goal.returns-clause-exact
returns-clause-exact c =
    let p : ProblemData = c.args.self.now in
    let ii : ℕ = c.args.ii in
    let s : SchedulingData = c.scheduling-scheduling.result.now in
    let i : ℕ = c.in_ok-table.table.interval in
    let b : ℕ = c.budget.result in
    let same : c.self.inside.problem.now ≡ p = c.self.view_is ∙ c.table_at.ensures.same in
    let scheduled : s ≡ p.scheduling = c.scheduling-scheduling.ensures.value ∙ ap (λ (q : ProblemData). q.scheduling) same in
    let at : i ≡ ii = c.in_ok-table.ensures.interval in
    elim c.match-branch-3.branch [
      | in-Placed w ↦
          let answer = subst (IsAnswer s i b) w.in-Placed.is c.in_ok-schedule.ensures.exact in
          let tried : IfOk w.numbered.result (IsTried c.self.inside.problem.now w.in-Placed.schedule.ii) = w.numbered.ensures in
          subst (λ r. IfOk r (IsTried p ii)) (sym w.result-is)
          (subst (λ (n : ℕ). IfOk w.numbered.result (IsTried p n)) (answer.3 ∙ at) (subst (λ (q : ProblemData). IfOk w.numbered.result (IsTried q w.in-Placed.schedule.ii)) same tried))
      | in-Failed w ↦
          let answer : AnswersCulprit s i b (Some w.in-Failed.culprit) = subst (IsAnswer s i b) w.in-Failed.is c.in_ok-schedule.ensures.exact in
          subst (λ r. IfOk r (IsTried p ii)) (sym w.result-is)
          (blamed-by p ii w.in-Failed.culprit w.by.result w.by.ensures.cause w.by.ensures.culprit
          (culprit-of p s i ii b (Some w.in-Failed.culprit) scheduled at c.budget.ensures.value answer))
    ]
