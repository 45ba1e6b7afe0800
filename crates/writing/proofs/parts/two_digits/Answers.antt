use Rattle.std.proofs.Common.{◌≡◌, ℕ, ◌+◌, ◌-◌, ◌*◌, ◌∙◌, ap, arith, drop, refl, take}
use Rattle.writing.specs.declared.parts.TheConstants.{PAIRS}
use Rattle.writing.proofs.Pairs.{cut, two}
use Rattle.writing.proofs.parts.two_digits.Goals as goal

pub range-requires-clause-start_boundary : goal.range-requires-clause-start_boundary
range-requires-clause-start_boundary c = λ above. cut (c.args.number * 2) (omega arith)

pub range-requires-clause-end_boundary : goal.range-requires-clause-end_boundary
range-requires-clause-end_boundary c = cut (c.args.number * 2 + 2) (omega arith)

pub returns : goal.returns
returns c =
    let start = c.args.number * 2 in
    let size : start + 2 - start ≡ 2 = omega arith in
    c.range.ensures.value ∙ (ap (λ (k : ℕ). take k (drop start PAIRS.now)) size ∙ two c.args.number start c.requires.low c.requires.high refl)
