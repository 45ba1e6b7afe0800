use Rattle.std.proofs.Common.{◌∙◌, sym}
use Rattle.machine.proofs.checks.Faults.{unit-wrong_type, unit-limit, unit-repeated, unit-fine, unit-text}
use Rattle.machine.proofs.read.units.read_unit.Goals as goal

pub returns-in_default : goal.returns-in_default
returns-in_default c = λ ne. rw (c.wrong_type.ensures ne, c.top.ensures) (unit-wrong_type _ _ c.in_default.ensures)

pub returns-then-not-is_unit_name : goal.returns-then-not-is_unit_name
returns-then-not-is_unit_name c = λ ne. rw (c.limit.ensures ne) (unit-limit _ _ _ c.in-Some.ensures (sym c.if-not-is_unit_name.ensures))

pub returns-then-is_among : goal.returns-then-is_among
returns-then-is_among c = λ _. rw c.in_ok-of.ensures (unit-repeated _ _ _ c.in-Some.ensures (sym c.if-not-is_unit_name.ensures) (sym c.if-is_among.ensures))

pub returns : goal.returns
returns c =
    (unit-fine _ _ _ c.in-Some.ensures (sym c.if-not-is_unit_name.ensures) (sym c.if-is_among.ensures), rw c.unwrap.ensures at c.new.ensures.value ∙ unit-text c.args.before.now _ _ c.in-Some.ensures)
