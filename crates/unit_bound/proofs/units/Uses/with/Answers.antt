use Rattle.std.proofs.Common.{◌+◌, ◌<◌, ◌≤◌, length, get_or, set, refl, arith, ◌≡◌}
use Rattle.std.proofs.lemmas.List.{get_or_default}
use Rattle.machine_data.specs.declared.alternative.Row.{Row}
use Rattle.unit_bound.specs.Uses.{AtMost}
use Rattle.unit_bound.proofs.Tally.{Tallies-more, AtMost-set}
use Rattle.unit_bound.proofs.units.Uses.with.Goals as goal

pub overflow_add-count : goal.overflow_add-count
overflow_add-count c =
    let row : Row = get_or c.args.rows.now c.loop-row.row-index (record { unit = 0; offset = 0 }) in
    let room : get_or c.loop-row.counts row.unit 0 ≤ 60000 + c.loop-row.row-index = c.loop-row.invariant.1 60000 c.requires.room row.unit in
    omega arith

pub loop-row-preserved : goal.loop-row-preserved
loop-row-preserved c =
    let d : Row = record { unit = 0; offset = 0 } in
    let row : Row = get_or c.args.rows.now c.loop-row.row-index d in
    let within : c.loop-row.row-index < length c.args.rows.now = c.loop-row-test.true in
    let below : row.unit < 64 = c.requires.units c.loop-row.row-index d within in
    let same : row ≡ get_or c.args.rows.now c.loop-row.row-index row = get_or_default c.args.rows.now c.loop-row.row-index d row within in (
      λ taken h. Tallies-more c.args.rows.now c.loop-row.row-index row c.loop-row.counts _ c.loop-row.greatest (get_or c.loop-row.counts row.unit 0 + 1) c.max-greatest.result
          within same below refl refl c.max-greatest.ensures taken (c.loop-row.invariant.0 taken h),
      λ bound h unit.
          let grown : AtMost ((bound + c.loop-row.row-index) + 1) (set c.loop-row.counts row.unit (get_or c.loop-row.counts row.unit 0 + 1))
          = AtMost-set c.loop-row.counts row.unit (bound + c.loop-row.row-index) (c.loop-row.invariant.1 bound h) in
          let here : get_or (set c.loop-row.counts row.unit (get_or c.loop-row.counts row.unit 0 + 1)) unit 0 ≤ (bound + c.loop-row.row-index) + 1 = grown unit in
          omega arith,
    )

pub returns-clause-grown : goal.returns-clause-grown
returns-clause-grown c = λ bound h unit.
    let grown : get_or c.loop-row.counts unit 0 ≤ bound + c.loop-row.row-index = c.loop-row.invariant.1 bound h unit in
    omega arith
