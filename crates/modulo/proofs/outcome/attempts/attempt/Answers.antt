use Rattle.std.proofs.Common.{subst}
use Rattle.std.specs.Prelude.{IfOk}
use Rattle.modulo.specs.Attempts.{AnswersAttempt}
use Rattle.modulo.proofs.outcome.attempts.attempt.Goals as goal

pub returns : goal.returns
returns g c = record {
  exact = subst (λ n. IfOk c.attempt_on.result (AnswersAttempt c.args.problem.now n c.args.budget)) c.in_ok-table.ensures.interval c.attempt_on.ensures.exact;
}
