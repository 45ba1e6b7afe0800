use Rattle.std.proofs.Common.{sym}
use Rattle.schedules.proofs.lawfulness.Checking.{taken_by_holder, taken_by_own, untaken}
use Rattle.schedules.proofs.check.taker.Goals as goal

pub returns-in-Some : goal.returns-in-Some
returns-in-Some g c =
    taken_by_holder (g.T.ModuloTable.interval c.args.table.now) (g.T.ModuloTable.operations c.args.table.now) (g.T.ModuloTable.placed c.args.table.now) c.args.rows.now _
    c.args.op c.args.time c.args.i c.requires.rows c.requires.row c.in-Some.holder c.in-Some.ensures

pub returns-then-meets_any : goal.returns-then-meets_any
returns-then-meets_any g c =
    taken_by_own (g.T.ModuloTable.interval c.args.table.now) (g.T.ModuloTable.operations c.args.table.now) (g.T.ModuloTable.placed c.args.table.now) c.args.rows.now _
    c.args.op c.args.time c.args.i c.requires.rows c.requires.row c.ii.result c.ii.ensures
    (sym c.if-meets_any.ensures)

pub returns-else-meets_any : goal.returns-else-meets_any
returns-else-meets_any g c =
    untaken (g.T.ModuloTable.interval c.args.table.now) (g.T.ModuloTable.operations c.args.table.now) (g.T.ModuloTable.placed c.args.table.now) c.args.rows.now _
    c.args.op c.args.time c.args.i c.requires.rows c.requires.row c.ii.result c.ii.ensures
    c.in_default.ensures (sym c.if-meets_any.ensures)
