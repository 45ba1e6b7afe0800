use Rattle.std.proofs.Common.{◌≡◌, ℕ, ap, ◌∙◌, sym, subst}
use Rattle.std.specs.Prelude.{IfOk}
use Rattle.modulo.specs.declared.outcome.attempts.Try.TheVariants as try
use Rattle.modulo.specs.Attempts.{AnswersAttempt}
use Rattle.schedules.specs.Problems.{ProblemData as SchedulingData}
use Rattle.problems.specs.Problems.{ProblemData}
use Rattle.solutions.specs.Trying.{IsMet}
use Rattle.solutions.proofs.Searching.{fails-at}
use Rattle.solutions.proofs.solving.trials.Trials.try_met.Goals.{in-Placed, in-Failed}
use Rattle.solutions.proofs.solving.trials.Trials.try_met.Goals as goal

pub returns-clause-exact : goal.returns-clause-exact
returns-clause-exact c =
    let p : ProblemData = c.args.self.now in
    let ii : ℕ = c.args.ii in
    let s : SchedulingData = c.scheduling-scheduling.result.now in
    let i : ℕ = c.in_ok-table.table.interval in
    let b : ℕ = c.budget.result in
    let same : c.self.inside.problem.now ≡ p = c.self.view_is ∙ c.table_at.ensures.same in
    let scheduled : s ≡ p.scheduling = c.scheduling-scheduling.ensures.value ∙ ap (λ (q : ProblemData). q.scheduling) same in
    let at : i ≡ ii = c.in_ok-table.ensures.interval in
    elim c.match-branch-3.branch [
      | in-Placed w ↦
          let answer : AnswersAttempt s i b (try.Placed w.in-Placed.schedule) = subst (AnswersAttempt s i b) w.in-Placed.is c.in_ok-schedule.ensures.exact in
          let tried : IfOk w.met_by.result (IsMet c.self.inside.problem.now w.in-Placed.schedule.ii) = w.met_by.ensures in
          subst (λ r. IfOk r (IsMet p ii)) (sym w.result-is)
          (subst (λ (n : ℕ). IfOk w.met_by.result (IsMet p n)) (answer.3 ∙ at) (subst (λ (q : ProblemData). IfOk w.met_by.result (IsMet q w.in-Placed.schedule.ii)) same tried))
      | in-Failed w ↦
          let answer : AnswersAttempt s i b (try.Failed w.in-Failed.field-0) = subst (AnswersAttempt s i b) w.in-Failed.is c.in_ok-schedule.ensures.exact in
          subst (λ r. IfOk r (IsMet p ii)) (sym w.result-is)
          (fails-at p s i ii b w.in-Failed.field-0 scheduled at c.budget.ensures.value answer)
    ]
