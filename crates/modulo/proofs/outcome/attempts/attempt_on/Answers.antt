use Rattle.std.proofs.Common.{ℕ, ◌≤◌, sym, subst, arith}
use Rattle.edges.specs.Schedules.{IsLawfulSchedule}
use Rattle.modulo.specs.inner.Endings.{EndsAs}
use Rattle.schedules.specs.Problems.{mii_of}
use Rattle.modulo.proofs.answers.Blaming.{mii-some}
use Rattle.modulo.proofs.states.Reached.{attempts-are_lawful}
use Rattle.modulo.proofs.outcome.attempts.attempt_on.Goals as goal

pub answer-requires-clause-some : goal.answer-requires-clause-some
answer-requires-clause-some g c =
    let from : mii_of c.args.problem.now ≤ c.ii-ii.result = omega arith in
    mii-some c.args.problem.now c.ii-ii.result c.operations.ensures.well_formed from

pub answer-requires-clause-lawful : goal.answer-requires-clause-lawful
answer-requires-clause-lawful g c =
    let ii : ℕ = g.T.ModuloTable.interval c.args.table.now in
    let e = subst (EndsAs c.args.problem.now ii c.args.budget) c.in-Full.is c.in_ok-end_on.ensures.exact in
    subst (λ n. IsLawfulSchedule n c.args.problem.now.operations c.args.problem.now.graph.edges c.in-Full.times.items c.in-Full.choices.items) (sym c.ii-ii.ensures)
    (attempts-are_lawful c.args.problem.now ii c.args.budget c.in-Full.times.items c.in-Full.choices.items c.operations.ensures.well_formed c.requires.from_mii e.1)
