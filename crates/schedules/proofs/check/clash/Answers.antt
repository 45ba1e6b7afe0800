use Rattle.std.proofs.Common.{◌≡◌, List, inl, inr, subst, arith}
use Rattle.std.proofs.lemmas.Bool.{cases_eq}
use Rattle.machine_data.specs.declared.alternative.Row.{Row}
use Rattle.mrt.specs.Placements.{rows_of}
use Rattle.schedules.specs.inner.Listed.{IsTaken}
use Rattle.schedules.proofs.lawfulness.Checking.{first_taken, free_after, rows_read}
use Rattle.schedules.proofs.check.clash.Goals as goal

pub returns-in-Some : goal.returns-in-Some
returns-in-Some g c =
    let rows : List Row = c.rows-rows.result.now in
    let are : rows ≡ rows_of c.args.operations.now c.args.op c.args.alternative
    = rows_read c.args.operations.now c.args.op c.args.alternative c.index-operations-op.result c.as_slice.result.now c.index-as_slice-alternative.result rows
    c.requires.there c.requires.alternative c.index-operations-op.is c.as_slice.ensures.value c.index-as_slice-alternative.is c.rows-rows.ensures.value in
    first_taken (g.T.ModuloTable.interval c.args.table.now) (g.T.ModuloTable.operations c.args.table.now) (g.T.ModuloTable.placed c.args.table.now) rows
    (rows_of c.args.operations.now c.args.op c.args.alternative) c.args.op c.args.time c.loop-i.i are c.loop-i-test.true
    c.args.operations.now c.in-Some.earlier c.from-unit.result c.from.result c.ii.result c.requires.operations c.in-Some.ensures c.loop-i.invariant
    c.from-unit.ensures c.from.ensures c.ii.ensures

pub loop-i-preserved : goal.loop-i-preserved
loop-i-preserved g c = λ k holder less taken.
    elim (cases_eq k c.loop-i.i) [
      | inl same ↦
          c.in_default.ensures holder
          (subst (λ n. IsTaken (g.T.ModuloTable.interval c.args.table.now) (g.T.ModuloTable.operations c.args.table.now) (g.T.ModuloTable.placed c.args.table.now) c.rows-rows.result.now
          c.args.op c.args.time n holder) same taken)
      | inr ne ↦ c.loop-i.invariant k holder (omega arith) taken
    ]

pub returns : goal.returns
returns g c =
    let rows : List Row = c.rows-rows.result.now in
    let are : rows ≡ rows_of c.args.operations.now c.args.op c.args.alternative
    = rows_read c.args.operations.now c.args.op c.args.alternative c.index-operations-op.result c.as_slice.result.now c.index-as_slice-alternative.result rows
    c.requires.there c.requires.alternative c.index-operations-op.is c.as_slice.ensures.value c.index-as_slice-alternative.is c.rows-rows.ensures.value in
    free_after (g.T.ModuloTable.interval c.args.table.now) (g.T.ModuloTable.operations c.args.table.now) c.args.operations.now (g.T.ModuloTable.placed c.args.table.now) rows
    c.args.op c.args.time c.args.alternative c.loop-i.i c.requires.operations are c.requires.alternative c.loop-i-test.false c.loop-i.invariant
