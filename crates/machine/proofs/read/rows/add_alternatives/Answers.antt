use Rattle.std.proofs.Common.{◌<◌, ◌≤◌, length, refl, arith}
use Rattle.machine.specs.MachineText.{alternative_faults, rows_of}
use Rattle.machine.proofs.checks.Faults.{ReadsPart-err}
use Rattle.machine.proofs.checks.Turns.{made-none, made-more, made-all, each-more, each-fault, each-all}
use Rattle.machine.proofs.read.rows.add_alternatives.Goals as goal

pub loop-value-init : goal.loop-value-init
loop-value-init c = record { no_fault = refl; made = made-none (rows_of c.args.units.now) c.args.values.now _ }

pub loop-value-preserved : goal.loop-value-preserved
loop-value-preserved c =
    let vs = c.args.values.now in
    let i = c.loop-value.value-index in
    let below : i < length vs = omega arith in
    let checked = c.in_ok-read_alternative.ensures in
    record {
      no_fault = each-more (alternative_faults c.args.path.now c.args.units.now) vs i c.value-item.result below c.value-item.is c.loop-value.invariant.no_fault checked.0;
      made = rw (c.in_ok-push.ensures.items, checked.1) (made-more (rows_of c.args.units.now) vs _ i c.value-item.result _ below c.value-item.is c.loop-value.invariant.made);
    }

pub returns-in_err-read_alternative : goal.returns-in_err-read_alternative
returns-in_err-read_alternative c =
    let below : c.loop-value.value-index < length c.args.values.now = omega arith in
    ReadsPart-err _ _ c.from_residual.result c.in_err-read_alternative.field-0.0 c.from_residual.ensures.1 (λ ne.
    each-fault (alternative_faults c.args.path.now c.args.units.now) c.args.values.now c.loop-value.value-index c.value-item.result below c.value-item.is c.loop-value.invariant.no_fault _ (c.in_err-read_alternative.ensures ne))

pub returns : goal.returns
returns c =
    let past : length c.args.values.now ≤ c.loop-value.value-index = omega arith in
    (each-all (alternative_faults c.args.path.now c.args.units.now) c.args.values.now _ past c.loop-value.invariant.no_fault, made-all (rows_of c.args.units.now) c.args.values.now _ _ _ past c.loop-value.invariant.made)
