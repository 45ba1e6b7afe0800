use Rattle.std.proofs.Common.{◌≡◌, ℕ, ◌+◌, ◌-◌, ◌*◌, ◌∙◌, ap, arith, drop, take}
use Rattle.writing.specs.declared.parts.TheConstants.{PAIRS}
use Rattle.writing.proofs.Pairs.{one}
use Rattle.writing.proofs.parts.one_digit.Goals as goal

pub returns : goal.returns
returns c =
    let end = c.args.number * 2 + 2 in
    let size : end - (end - 1) ≡ 1 = omega arith in
    c.range.ensures.value ∙ (ap (λ (k : ℕ). take k (drop (end - 1) PAIRS.now)) size ∙ one c.args.number (end - 1) c.requires (omega arith))
