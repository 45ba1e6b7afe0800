use Rattle.std.proofs.Common.{◌<◌, ◌≤◌, length, refl, arith}
use Rattle.machine.specs.MachineText.{row_faults, row_in}
use Rattle.machine.proofs.checks.Faults.{ReadsPart-err}
use Rattle.machine.proofs.checks.Turns.{made-none, made-more, made-all, turn-more, turn-fault, turn-all}
use Rattle.machine.proofs.read.rows.add_rows.Goals as goal

pub loop-value-init : goal.loop-value-init
loop-value-init c = record { no_fault = refl; made = made-none (row_in c.args.units.now) c.args.values.now _ }

pub loop-value-preserved : goal.loop-value-preserved
loop-value-preserved c =
    let vs = c.args.values.now in
    let i = c.loop-value.value-index in
    let below : i < length vs = omega arith in
    let checked = rw c.as_slice.ensures at c.in_ok-row.ensures in
    record {
      no_fault = rw (c.in_ok-push.ensures.ok, checked.1) (turn-more (row_faults c.args.path.now c.args.units.now) (row_in c.args.units.now) vs _ i c.value-item.result _ below c.value-item.is c.loop-value.invariant.no_fault checked.0);
      made = rw (c.in_ok-push.ensures.ok, checked.1) (made-more (row_in c.args.units.now) vs _ i c.value-item.result _ below c.value-item.is c.loop-value.invariant.made);
    }

pub returns-in_err-row : goal.returns-in_err-row
returns-in_err-row c =
    let below : c.loop-value.value-index < length c.args.values.now = omega arith in
    ReadsPart-err _ _ c.from_residual.result c.in_err-row.field-0.0 c.from_residual.ensures.1 (λ ne.
    let first = rw c.as_slice.ensures at (c.in_err-row.ensures ne) in
    turn-fault (row_faults c.args.path.now c.args.units.now) (row_in c.args.units.now) c.args.values.now _ c.loop-value.value-index c.value-item.result _ below c.value-item.is c.loop-value.invariant.no_fault _ first)

pub returns : goal.returns
returns c =
    let past : length c.args.values.now ≤ c.loop-value.value-index = omega arith in
    (turn-all (row_faults c.args.path.now c.args.units.now) (row_in c.args.units.now) c.args.values.now _ _ _ past c.loop-value.invariant.no_fault, made-all (row_in c.args.units.now) c.args.values.now _ _ _ past c.loop-value.invariant.made)
