use Rattle.std.proofs.Common.{◌≡◌, ◌<◌, ◌+◌, ◌||◌, eqb, ltb, get_or, sym, ap, ◌∙◌, arith}
use Rattle.std.proofs.lemmas.Bool.{false_from_ne_true, eqb-true}
use Rattle.std.specs.Int.{bit_at}
use Rattle.problem_lines.proofs.EightBytes.{high_printable, lowest_of_eight}
use Rattle.problem_lines.proofs.eights.count_ahead.Goals as goal

pub returns-clause-named : goal.returns-clause-named
returns-clause-named c k lt =
    let few : k < 8 = omega (arith, c.min.ensures) in
    let byte = get_or c.args.text.now (c.args.at + k) 0 in
    let tells : eqb (bit_at c.other_bytes.result k) 1 ≡ (ltb byte 36 || ltb 126 byte) =
    c.other_bytes.ensures k few ∙ ap (λ b. ltb b 36 || ltb 126 b) (c.load.ensures.each k few) in
    high_printable byte (sym tells ∙ false_from_ne_true (eqb (bit_at c.other_bytes.result k) 1) (λ one. lowest_of_eight c.other_bytes.result c.min.result c.other_bytes.type_inv c.min.ensures k lt (eqb-true _ _ one)))
