use Rattle.std.proofs.Common.{◌∙◌}
use Rattle.machine.proofs.checks.Faults.{ReadsPart-err, first-append, first-then, none-append}
use Rattle.machine.proofs.checks.Parts.{units-of, units-names}
use Rattle.machine.proofs.read.units.read_units.Goals as goal

pub returns-in_err-units : goal.returns-in_err-units
returns-in_err-units c = ReadsPart-err _ _ c.from_residual.result c.in_err-units.field-0.0 c.from_residual.ensures.1 (λ ne.
    let first = rw c.top.ensures at (c.in_err-units.ensures ne) in
    rw (units-of _) (first-append _ _ _ first))

pub returns-in_err-add_units : goal.returns-in_err-add_units
returns-in_err-add_units c =
    let listed = rw c.top.ensures at c.in_ok-units.ensures in
    ReadsPart-err _ _ c.from_residual-in_err-add_units.result c.in_err-add_units.field-0.0 c.from_residual-in_err-add_units.ensures.1 (λ ne.
    let first = rw (c.in_ok-names.ensures.items, listed.1) at (c.in_err-add_units.ensures ne) in
    rw (units-of _) (first-then _ _ _ listed.0 first))

pub returns : goal.returns
returns c =
    let listed = rw c.top.ensures at c.in_ok-units.ensures in
    let added = rw (c.in_ok-names.ensures.items, listed.1) at c.in_ok-add_units.ensures in
    (rw (units-of _) (none-append _ _ listed.0 added.0), added.1 ∙ units-names _)
