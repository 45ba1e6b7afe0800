use Rattle.std.proofs.Common.{◌≡◌, ◌<◌, ◌≤◌, false, sym, ap, ◌∙◌, arith, rules, eqb}
use Rattle.unit_sets.specs.Fullest.{units_in}
use Rattle.std.proofs.lemmas.Nat.Bits.{shr_and_one}
use Rattle.unit_sets.specs.Sets.{is_in}
use Rattle.unit_sets.proofs.Listed.{is_in-units, is_in-units_above}
use Rattle.unit_sets.proofs.units.has.Goals as goal

pub returns-then-from-lt-MAX_UNITS : goal.returns-then-from-lt-MAX_UNITS
returns-then-from-lt-MAX_UNITS c =
    let below : c.args.unit < 64 = omega (arith, c.if-from-lt-MAX_UNITS.true, c.from.ensures) in
    ap (λ n. eqb n 1) (shr_and_one c.args.set c.args.unit) ∙ sym (is_in-units c.args.set c.args.unit below)

pub returns-else-from-lt-MAX_UNITS : goal.returns-else-from-lt-MAX_UNITS
returns-else-from-lt-MAX_UNITS c =
    let above : 64 ≤ c.args.unit = omega (arith, c.if-from-lt-MAX_UNITS.false, c.from.ensures) in
    let e : is_in (units_in c.args.set) c.args.unit ≡ false = is_in-units_above c.args.set c.args.unit above in
    rw e (search rules)
