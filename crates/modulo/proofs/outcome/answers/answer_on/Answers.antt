use Rattle.std.proofs.Common.{ℕ, sym, subst}
use Rattle.edges.specs.Schedules.{IsLawfulSchedule}
use Rattle.modulo.specs.inner.Endings.{EndsAs}
use Rattle.modulo.proofs.answers.Blaming.{ends-without}
use Rattle.modulo.proofs.states.Reached.{attempts-are_lawful}
use Rattle.modulo.proofs.outcome.answers.answer_on.Goals as goal

pub in_stages-requires-clause-lawful : goal.in_stages-requires-clause-lawful
in_stages-requires-clause-lawful g c =
    let ii : ℕ = g.T.ModuloTable.interval c.args.table.now in
    let e = subst (EndsAs c.args.problem.now ii c.args.budget) c.in-Full.is c.in_ok-op.ensures.exact in
    subst (λ n. IsLawfulSchedule n c.args.problem.now.operations c.args.problem.now.graph.edges c.in-Full.times.items c.in-Full.choices.items) (sym c.ii-ii.ensures)
    (attempts-are_lawful c.args.problem.now ii c.args.budget c.in-Full.times.items c.in-Full.choices.items c.operations-operations.ensures.well_formed c.requires.from_mii e.1)

pub returns-in_ok-ops-in-Short-clause-exact : goal.returns-in_ok-ops-in-Short-clause-exact
returns-in_ok-ops-in-Short-clause-exact g c =
    let ii : ℕ = g.T.ModuloTable.interval c.args.table.now in
    let e = subst (EndsAs c.args.problem.now ii c.args.budget) c.in-Short.is c.in_ok-op.ensures.exact in (
      e.0,
      ends-without c.args.problem.now ii c.args.budget c.operations-operations.result e.3.0 c.in-Short.progress.state _ e.1 c.operations-operations.ensures.value e.3.1
          c.in_ok-ops-in-Short.ensures,
    )
