use Rattle.std.proofs.Common.{◌<◌, ◌≤◌, length, refl, arith}
use Rattle.machine.specs.MachineText.{unit_faults, text_of}
use Rattle.machine.proofs.checks.Faults.{ReadsPart-err}
use Rattle.machine.proofs.checks.Turns.{made-none, made-more, made-all, turn-more, turn-fault, turn-all}
use Rattle.machine.proofs.read.units.add_units.Goals as goal

pub loop-unit-init : goal.loop-unit-init
loop-unit-init c = record { no_fault = refl; made = made-none text_of c.args.units.now _ }

pub loop-unit-preserved : goal.loop-unit-preserved
loop-unit-preserved c =
    let vs = c.args.units.now in
    let i = c.loop-unit.unit-index in
    let below : i < length vs = omega arith in
    let checked = rw c.as_slice.ensures.value at c.in_ok-name.ensures in
    record {
      no_fault = rw (c.in_ok-push.ensures.items, checked.1) (turn-more unit_faults text_of vs _ i c.unit-item.result _ below c.unit-item.is c.loop-unit.invariant.no_fault checked.0);
      made = rw (c.in_ok-push.ensures.items, checked.1) (made-more text_of vs _ i c.unit-item.result _ below c.unit-item.is c.loop-unit.invariant.made);
    }

pub returns-in_err-name : goal.returns-in_err-name
returns-in_err-name c =
    let below : c.loop-unit.unit-index < length c.args.units.now = omega arith in
    ReadsPart-err _ _ c.from_residual.result c.in_err-name.field-0.0 c.from_residual.ensures.1 (λ ne.
    let first = rw c.as_slice.ensures.value at (c.in_err-name.ensures ne) in
    turn-fault unit_faults text_of c.args.units.now _ c.loop-unit.unit-index c.unit-item.result _ below c.unit-item.is c.loop-unit.invariant.no_fault _ first)

pub returns : goal.returns
returns c =
    let past : length c.args.units.now ≤ c.loop-unit.unit-index = omega arith in
    (turn-all unit_faults text_of c.args.units.now _ _ _ past c.loop-unit.invariant.no_fault, made-all text_of c.args.units.now _ _ _ past c.loop-unit.invariant.made)
