use Rattle.std.proofs.Common.{sym, rules, SFits, w64}
use Rattle.std.proofs.lemmas.Int.{to_z-of_z}
use Rattle.machine.proofs.checks.Faults.{number-missing, number-wrong_type, number-limit, number-fine}
use Rattle.machine.proofs.read.read_number.Goals as goal

pub returns-in_default : goal.returns-in_default
returns-in_default c = λ ne. rw (c.missing.ensures ne, c.in_default.is) (number-missing _ _ _)

pub returns-in_default-as_integer : goal.returns-in_default-as_integer
returns-in_default-as_integer c = λ ne. rw (c.wrong_type.ensures ne, c.in-Some.is) (number-wrong_type _ _ _ _ c.in_default-as_integer.ensures)

pub returns-then-not-is_within : goal.returns-then-not-is_within
returns-then-not-is_within c = λ ne.
    let fits : SFits w64 c.in-Some-as_integer.number = search (rules, c.as_integer.type_inv, c.in-Some-as_integer.is) in
    let tried = rw to_z-of_z at c.try_from.ensures in
    let out = rw (c.from-2.ensures, c.from.ensures, c.unwrap_or-number.ensures) at (sym c.if-not-is_within.ensures) in
    rw (c.limit.ensures ne, c.in-Some.is) (number-limit _ _ c.args.high _ c.in-Some-as_integer.number c.try_from.result c.in-Some-as_integer.ensures tried c.ranges.high.fits out)

pub returns : goal.returns
returns c =
    let fits : SFits w64 c.in-Some-as_integer.number = search (rules, c.as_integer.type_inv, c.in-Some-as_integer.is) in
    let tried = rw to_z-of_z at c.try_from.ensures in
    let in' = rw (c.from-2.ensures, c.from.ensures, c.unwrap_or-number.ensures) at (sym c.if-not-is_within.ensures) in
    rw (c.unwrap_or-number.ensures, c.in-Some.is) (number-fine _ _ c.args.high _ c.in-Some-as_integer.number c.try_from.result c.in-Some-as_integer.ensures tried in')
