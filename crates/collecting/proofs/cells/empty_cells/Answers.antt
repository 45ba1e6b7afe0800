use Rattle.collecting.proofs.Choosing.{empty_more}
use Rattle.collecting.proofs.cells.empty_cells.Goals as goal

pub loop-number-preserved : goal.loop-number-preserved
loop-number-preserved c =
    empty_more c.args.loops.now c.loop-number.rows.items c.add_cells.new.rows.items c.loop-number.number c.index-loops-number.result c.loop-number.invariant.0 c.loop-number.invariant.1 c.loop-number-test.true c.index-loops-number.is c.in_default.ensures
