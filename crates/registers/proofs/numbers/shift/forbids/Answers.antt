use Rattle.std.proofs.Common.{rules, ◌≡◌, ℤ, sym, ◌∙◌, subst, arith, FitsSigned, to_z, of_z, w64}
use Rattle.std.specs.Prelude.{◌≤ℤ◌, IsTrue}
use Rattle.std.proofs.lemmas.Int.{ints, to_z-of_z}
use Rattle.std.specs.Int.Signed.{le_z}
use Rattle.registers.specs.Residues.{greatest_shift}
use Rattle.registers.specs.inner.Forbidding.{first_shift}
use Rattle.registers.proofs.allotted.Shifts.{forbids-between}
use Rattle.registers.proofs.numbers.shift.forbids.Goals as goal

from-test : (a b x y : ℤ) → a ≡ x → b ≡ y → IsTrue (le_z a b) → x ≤ℤ y
from-test a b x y ax ay h = let le : a ≤ℤ b = grind (arith, ints) in subst (λ z. z ≤ℤ y) ax (subst (λ z. a ≤ℤ z) ay le)

to-test : (a b x y : ℤ) → a ≡ x → b ≡ y → x ≤ℤ y → IsTrue (le_z a b)
to-test a b x y ax ay h = let le : a ≤ℤ b = subst (λ z. z ≤ℤ b) (sym ax) (subst (λ z. x ≤ℤ z) (sym ay) h) in grind (arith, ints)

pub returns : goal.returns
returns c =
    let f = forbids-between c.args.ii c.args.registers c.args.number c.args.candidate c.args.one c.args.other c.requires.some c.requires.registers_some c.requires.one c.requires.other in
    let first : ℤ = first_shift c.args.ii c.args.registers c.args.one c.args.number c.args.other c.args.candidate in
    let high : ℤ = greatest_shift c.args.ii c.args.one c.args.other in
    let first-fits : FitsSigned w64 c.first_shift.result = search rules in
    let high-fits : FitsSigned w64 c.greatest_shift.result = search rules in
    let left : to_z w64 (of_z w64 c.first_shift.result) ≡ first = to_z-of_z w64 c.first_shift.result first-fits ∙ c.first_shift.ensures.value in
    let right : to_z w64 (of_z w64 c.greatest_shift.result) ≡ high = to_z-of_z w64 c.greatest_shift.result high-fits ∙ c.greatest_shift.ensures.value in (
      λ t. f.1 (from-test _ _ first high left right t),
      λ g. to-test _ _ first high left right (f.0 g),
    )
