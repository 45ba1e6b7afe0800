use Rattle.std.proofs.Common.{◌≤◌, sym, subst}
use Rattle.modulo.specs.Attempts as attempts
use Rattle.schedules.specs.Problems as problems
use Rattle.ims.proofs.outcome.attempts.attempt_on.Goals as goal

pub attempt_on-requires-clause-from_mii : goal.attempt_on-requires-clause-from_mii
attempt_on-requires-clause-from_mii g c =
    subst (λ (p : problems.ProblemData). problems.mii_of p ≤ g.T.ModuloTable.interval c.args.table.now) (sym c.problem.ensures.value) c.requires.from_mii

pub of_loop-requires : goal.of_loop-requires
of_loop-requires g c = (
  g.T.ModuloTable.interval c.args.table.now,
  c.args.budget,
  subst (λ (p : problems.ProblemData). attempts.AnswersAttempt p (g.T.ModuloTable.interval c.args.table.now) c.args.budget c.in_ok-found.found) c.problem.ensures.value
      c.in_ok-found.ensures.exact,
)

pub returns-clause-exact : goal.returns-clause-exact
returns-clause-exact g c =
    c.of_loop.ensures (g.T.ModuloTable.interval c.args.table.now) c.args.budget
    (subst (λ (p : problems.ProblemData). attempts.AnswersAttempt p (g.T.ModuloTable.interval c.args.table.now) c.args.budget c.in_ok-found.found) c.problem.ensures.value
    c.in_ok-found.ensures.exact)
