-- An attempt has one answer of a loop, since it has one without the loop.
use Rattle.std.proofs.Common.{◌≡◌, ℕ, sym, ap, ◌∙◌}
use Rattle.ims.specs.declared.outcome.attempts.Try.{Try}
use Rattle.ims.specs.declared.outcome.attempts.Try.TheVariants.{Placed, Failed}
use Rattle.ims.specs.Attempts.{AnswersAttempt}
use Rattle.loop_schedules.specs.Problems.{ProblemData, without_loop}
use Rattle.loop_schedules.specs.Schedules.{ScheduleData}
use Rattle.ims.specs.Promises.{OneAnswer}
use Rattle.ims.proofs.answers.OfLoops.{answer-bare, bare_answer}
use Rattle.loop_schedules.proofs.Bare.{bare}
use Rattle.modulo.specs.declared.outcome.attempts.Failure.{Failure}
use Rattle.modulo.specs.declared.outcome.attempts.Failure.TheVariants as failure
use Rattle.modulo.specs.declared.outcome.attempts.Try as answer
use Rattle.modulo.specs.declared.outcome.attempts.Try.TheVariants as try
use Rattle.schedules.specs.Schedules as schedules
use Rattle.modulo.proofs.answers.OneAnswers as answers

-- the failure and the schedule of an answer, and something where there is none
abbrev failure_in : answer.Try → Failure
failure_in (try.Failed f) = f
failure_in (try.Placed s) = failure.Table

abbrev schedule_in : schedules.ScheduleData → answer.Try → schedules.ScheduleData
schedule_in none (try.Failed f) = none
schedule_in none (try.Placed s) = s

same-schedules : (s t : ScheduleData) → s.problem ≡ t.problem → bare s ≡ bare t → s ≡ t
same-schedules s t problem same =
    ap (λ (k : ProblemData). let r : ScheduleData = record { problem = k; ii = s.ii; times = s.times; choices = s.choices } in r) problem
    ∙ ap (λ (k : schedules.ScheduleData). let r : ScheduleData = record { problem = t.problem; ii = k.ii; times = k.times; choices = k.choices } in r) same

same-answers : (problem : ProblemData) (ii budget : ℕ) (one other : Try) → AnswersAttempt problem ii budget one → AnswersAttempt problem ii budget other
    → bare_answer one ≡ bare_answer other → one ≡ other
same-answers problem ii budget (Failed f) (Failed g) a b same = ap (λ k. Failed k) (ap failure_in same)
same-answers problem ii budget (Failed f) (Placed t) a b same = let e = same in cc
same-answers problem ii budget (Placed s) (Failed g) a b same = let e = same in cc
same-answers problem ii budget (Placed s) (Placed t) a b same = ap (λ k. Placed k) (same-schedules s t (a.2 ∙ sym b.2) (ap (schedule_in (bare s)) same))

pub one-answer : OneAnswer
one-answer problem ii budget one other is a b =
    same-answers problem ii budget one other a b
    (answers.one-answer (without_loop problem) ii budget (bare_answer one) (bare_answer other) is.is_problem (answer-bare problem ii budget one a)
    (answer-bare problem ii budget other b))
