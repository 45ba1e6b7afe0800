use Rattle.std.proofs.Common.{◌≡◌, ◌<◌, ◌||◌, eqb, ltb, get_or, sym, ap, ◌∙◌, arith, zero-add}
use Rattle.std.proofs.lemmas.Bool.{false_from_ne_true, eqb-true}
use Rattle.std.specs.Int.{bit_at}
use Rattle.loop_lines.proofs.Lanes.{digit_since, lowest_bit}
use Rattle.loop_lines.proofs.feeds.count_front.Goals as goal

pub returns-clause-digits : goal.returns-clause-digits
returns-clause-digits g c k lt =
    let low = lowest_bit g.row.N c.outside.result c.min.result (omega (arith, c.requires.few)) c.outside.type_inv c.min.ensures in
    let few : k < g.row.N = omega (arith, c.min.ensures) in
    let byte = get_or c.args.text.now k 0 in
    let tells : eqb (bit_at c.outside.result k) 1 ≡ (ltb byte 48 || ltb 57 byte) =
    c.outside.ensures k few ∙ ap (λ b. ltb b 48 || ltb 57 b) (c.load.ensures.each k few ∙ ap (λ n. get_or c.args.text.now n 0) (zero-add k)) in
    digit_since byte (sym tells ∙ false_from_ne_true (eqb (bit_at c.outside.result k) 1) (λ one. low.0 k lt (eqb-true _ _ one)))
