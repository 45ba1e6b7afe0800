use Rattle.std.proofs.Common.{◌≡◌, ◌<◌, ◌+◌, ℕ, eqb, get_or, sym, ap, ◌∙◌, arith, eq-eqb}
use Rattle.std.proofs.lemmas.Bool.{false_from_ne_true, eqb-true}
use Rattle.std.specs.Int.{bit_at}
use Rattle.loop_lines.proofs.Lanes.{lowest_bit}
use Rattle.loop_lines.proofs.feeds.count_ahead.Goals as goal
use Rattle.loop_lines.proofs.feeds.count_ahead.Goals.{After-min}

-- a bit tells whether its byte is a line feed
tells : (c : After-min) (k : ℕ) → k < 16 → eqb (bit_at c.feeds.result k) 1 ≡ eqb (get_or c.args.text.now (c.args.at + k) 0) 10
tells c k lt = c.feeds.ensures k lt ∙ ap (λ b. eqb b 10) (c.load.ensures.each k lt)

pub returns-clause-before : goal.returns-clause-before
returns-clause-before c k lt =
    let low = lowest_bit 16 c.feeds.result c.min.result (omega arith) c.feeds.type_inv c.min.ensures in
    let few : k < 16 = omega (arith, c.min.ensures) in
    sym (tells c k few) ∙ false_from_ne_true (eqb (bit_at c.feeds.result k) 1) (λ one. low.0 k lt (eqb-true _ _ one))

pub returns-clause-here : goal.returns-clause-here
returns-clause-here c lt =
    let low = lowest_bit 16 c.feeds.result c.min.result (omega arith) c.feeds.type_inv c.min.ensures in
    sym (tells c c.min.result lt) ∙ eq-eqb (bit_at c.feeds.result c.min.result) 1 (low.1 lt)
