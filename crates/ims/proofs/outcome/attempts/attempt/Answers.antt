use Rattle.std.proofs.Common.{◌≤◌, sym, subst}
use Rattle.modulo.specs.Attempts as attempts
use Rattle.schedules.specs.Problems as problems
use Rattle.ims.proofs.outcome.attempts.attempt.Goals as goal

pub attempt-requires-clause-from_mii : goal.attempt-requires-clause-from_mii
attempt-requires-clause-from_mii g c = subst (λ (p : problems.ProblemData). problems.mii_of p ≤ c.args.ii) (sym c.problem.ensures.value) c.requires.from_mii

pub of_loop-requires : goal.of_loop-requires
of_loop-requires g c = (
  c.args.ii,
  c.args.budget,
  subst (λ (p : problems.ProblemData). attempts.AnswersAttempt p c.args.ii c.args.budget c.in_ok-found.found) c.problem.ensures.value c.in_ok-found.ensures.exact,
)

pub returns : goal.returns
returns g c = record {
  exact = c.of_loop.ensures c.args.ii c.args.budget
      (subst (λ (p : problems.ProblemData). attempts.AnswersAttempt p c.args.ii c.args.budget c.in_ok-found.found) c.problem.ensures.value c.in_ok-found.ensures.exact);
}
