use Rattle.std.proofs.Common.{◌≤◌, sym, arith}
use Rattle.std.proofs.lemmas.List.{append-nil}
use Rattle.machine.proofs.checks.RowFaults.{row-wrong_type, row-limit, row-unknown, row-is, row-repeated, row-fine}
use Rattle.machine.proofs.read.rows.read_row.Goals as goal

pub returns-in_default : goal.returns-in_default
returns-in_default c = λ ne. rw (c.wrong_type.ensures ne) (row-wrong_type _ _ _ _ c.in_default.ensures.value)

pub returns-in_default-small_offset : goal.returns-in_default-small_offset
returns-in_default-small_offset c = λ ne. rw (c.limit.ensures ne) (row-limit _ _ _ _ _ _ c.in-Some.ensures.value (omega (arith, c.in_default-small_offset.ensures)))

pub returns-in_default-unit_number : goal.returns-in_default-unit_number
returns-in_default-unit_number c = λ _.
    let small = c.in-Some-small_offset.ensures in
    rw c.in_ok-of.ensures (row-unknown _ _ _ _ _ _ c.in-Some.ensures.value small.0 (sym c.in_default-unit_number.ensures))

pub returns-then-contains : goal.returns-then-contains
returns-then-contains c = λ _.
    let small = c.in-Some-small_offset.ensures in
    let words = rw (← small.1) at c.in-Some.ensures.value in
    let below : c.in-Some-small_offset.offset ≤ 63 = omega (arith, small.0, small.1) in
    rw (c.in_ok-to_key.ensures, append-nil) (row-repeated _ _ _ _ _ _ words _ below (sym c.in-Some-unit_number.ensures) (sym c.if-contains.ensures.value))

pub returns : goal.returns
returns c =
    let small = c.in-Some-small_offset.ensures in
    let words = rw (← small.1) at c.in-Some.ensures.value in
    let below : c.in-Some-small_offset.offset ≤ 63 = omega (arith, small.0, small.1) in
    let found = sym c.in-Some-unit_number.ensures in
    (row-fine _ _ _ _ _ _ words _ below found (sym c.if-contains.ensures.value), row-is c.args.path.now _ c.args.before.now _ _ _ words _ found)
