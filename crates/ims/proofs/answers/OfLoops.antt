-- What is answered of a loop is answered of its problem.
use Rattle.std.proofs.Common.{ℕ, ap}
use Rattle.ims.specs.declared.outcome.attempts.Try.{Try}
use Rattle.ims.specs.declared.outcome.attempts.Try.TheVariants.{Placed, Failed}
use Rattle.ims.specs.Attempts.{AnswersAttempt}
use Rattle.loop_schedules.specs.Problems.{ProblemData, without_loop}
use Rattle.loop_schedules.proofs.Bare.{bare, bare-is}
use Rattle.modulo.specs.declared.outcome.attempts.Try as answer
use Rattle.modulo.specs.declared.outcome.attempts.Try.TheVariants as try
use Rattle.modulo.specs.Attempts as attempts

-- an answer without the loop
abbrev pub bare_answer : Try → answer.Try
bare_answer (Failed failure) = try.Failed failure
bare_answer (Placed schedule) = try.Placed (bare schedule)

pub answer-bare : (p : ProblemData) (ii budget : ℕ) (one : Try) → AnswersAttempt p ii budget one
    → attempts.AnswersAttempt (without_loop p) ii budget (bare_answer one)
answer-bare p ii budget (Failed failure) h = h
answer-bare p ii budget (Placed s) h = (h.0, h.1, ap without_loop h.2, h.3, bare-is s h.4)
