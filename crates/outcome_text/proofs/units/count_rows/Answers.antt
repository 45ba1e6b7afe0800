use Rattle.std.proofs.Common.{◌≡◌, ℕ, ◌+◌, ◌<◌, ◌≤◌, List, length, take, refl, arith, slice_index}
use Rattle.std.specs.Prelude.{◌==◌}
use Rattle.std.proofs.lemmas.List.{length-take}
use Rattle.std.proofs.lemmas.List.Sums.{count_by-le-length}
use Rattle.machine_data.specs.declared.alternative.Row.{Row}
use Rattle.unit_bound.specs.Units.{use_of}
use Rattle.outcome_text.proofs.Uses.{counted-more}
use Rattle.outcome_text.proofs.units.count_rows.Goals as goal

pub overflow_add-count : goal.overflow_add-count
overflow_add-count c =
    let u : ℕ = c.from-unit.result in
    let some : List Row = take c.loop-row.row-index c.args.rows.now in
    let there : u < length c.args.counts.now = omega arith in
    let now : slice_index c.loop-row.counts u ≡ slice_index c.args.counts.now u + use_of some u = c.loop-row.invariant.counted u there in
    let room : slice_index c.args.counts.now u ≤ 2048 = c.requires.room u (omega arith) in
    let few : use_of some u ≤ length some = count_by-le-length (λ (r : Row). r.unit == u) some in
    let short = length-take c.loop-row.row-index c.args.rows.now in
    omega (arith, now, room, few, short)

pub loop-row-preserved : goal.loop-row-preserved
loop-row-preserved c =
    counted-more c.args.rows.now c.args.counts.now c.loop-row.counts c.loop-row.row-index c.from-unit.result (slice_index c.loop-row.counts c.from-unit.result + 1)
    (record { unit = 0; offset = 0 }) c.loop-row-test.true c.from-unit.ensures (omega arith) refl c.loop-row.invariant
