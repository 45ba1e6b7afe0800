use Rattle.std.proofs.Common.{◌-◌, ◌<◌, sym, subst, false, arith}
use Rattle.walks.specs.Rounds.{IsRounds}
use Rattle.walks.proofs.Settling.{rounds-never}
use Rattle.walks.proofs.Sweeps.{exceeds-shorter}
use Rattle.walks.proofs.round_count.rounds.Goals as goal

pub returns-in-Above-clause-exact : goal.returns-in-Above-clause-exact
returns-in-Above-clause-exact c = subst (IsRounds c.args.edges.now c.args.ii false) (sym c.operations.ensures.value)
    (rounds-never c.args.edges.now c.args.ii c.operations.ensures.well_formed
    (exceeds-shorter c.args.edges.now.edges c.args.ii (c.in-Above.field-0 - 1) (let up : c.args.ii < c.in-Above.field-0 = c.in-Above.ensures.exact.0 in omega arith)
    c.in-Above.ensures.exact.1))
