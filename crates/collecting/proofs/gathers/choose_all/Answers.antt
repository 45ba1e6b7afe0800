use Rattle.std.proofs.Common.{sym, subst, arith, ℕ, slice_index_or}
use Rattle.collecting.specs.inner.Cells.{AreCellsOf}
use Rattle.collecting.proofs.Filling.{row_there, row_of}
use Rattle.collecting.proofs.Choosing.{chosen_on}
use Rattle.collecting.proofs.gathers.choose_all.Goals as goal

pub bounds-rows-number : goal.bounds-rows-number
bounds-rows-number c = let near = c.loop-number-test.true in let a = row_there c.args.loops.now c.args.rows.now c.requires.rows in let b = c.loop-number.invariant.3 in omega arith

pub choose-requires-clause-row : goal.choose-requires-clause-row
choose-requires-clause-row c =
    let n : ℕ = c.loop-number.number in
    subst (λ p. AreCellsOf p (slice_index_or c.loop-number.rows n c.index-rows-number.result)) (sym c.index-loops-number.is)
    (subst (AreCellsOf (slice_index_or c.args.loops.now n c.index-loops-number.result)) (sym (c.loop-number.invariant.4 n c.index-rows-number.result (omega arith)))
    (row_of c.args.loops.now c.args.rows.now n c.index-loops-number.result c.index-rows-number.result c.requires.rows c.loop-number-test.true))

pub loop-number-preserved : goal.loop-number-preserved
loop-number-preserved c =
    chosen_on c.args.loops.now c.args.rows.now c.loop-number.rows c.loop-number.chosen c.choose.new.chosen c.loop-number.number c.index-loops-number.result c.index-rows-number.result c.choose.new.row
    c.loop-number.invariant c.loop-number-test.true (row_there c.args.loops.now c.args.rows.now c.requires.rows) c.index-loops-number.is c.in_default.ensures
