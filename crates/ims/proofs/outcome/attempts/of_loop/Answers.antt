use Rattle.std.proofs.Common.{subst}
use Rattle.modulo.specs.declared.outcome.attempts.Try as answer
use Rattle.modulo.specs.Attempts as attempts
use Rattle.loop_schedules.specs.Problems.{without_loop}
use Rattle.ims.proofs.outcome.attempts.of_loop.Goals as goal

pub of_loop-requires : goal.of_loop-requires
of_loop-requires c =
    let h = subst (λ (t : answer.Try). attempts.AnswersAttempt (without_loop c.args.prepared.now) c.requires.0 c.requires.1 t) c.in-Placed.is c.requires.2 in
    h.2
