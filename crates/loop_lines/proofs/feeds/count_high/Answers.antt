use Rattle.std.proofs.Common.{◌≡◌, ◌<◌, eqb, leb, get_or, sym, ap, ◌∙◌, arith, zero-add}
use Rattle.std.proofs.lemmas.Bool.{false_from_ne_true, eqb-true}
use Rattle.std.specs.Int.{bit_at}
use Rattle.loop_lines.proofs.Lanes.{lowest_bit}
use Rattle.loop_lines.proofs.feeds.count_high.Goals as goal

pub returns-clause-high : goal.returns-clause-high
returns-clause-high c k lt =
    let low = lowest_bit 16 c.low_bytes.result c.min.result (omega arith) c.low_bytes.type_inv c.min.ensures in
    let few : k < 16 = omega (arith, c.min.ensures) in
    let tells : eqb (bit_at c.low_bytes.result k) 1 ≡ leb (get_or c.args.text.now k 0) 35 = c.low_bytes.ensures k few ∙ ap (λ b. leb b 35) (c.load.ensures.each k few ∙ ap (λ n. get_or c.args.text.now n 0) (zero-add k)) in
    sym tells ∙ false_from_ne_true (eqb (bit_at c.low_bytes.result k) 1) (λ one. low.0 k lt (eqb-true _ _ one))
