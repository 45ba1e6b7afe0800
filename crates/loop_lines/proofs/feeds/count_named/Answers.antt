use Rattle.std.proofs.Common.{◌≡◌, ◌<◌, ◌+◌, ℕ, eqb, get_or, sym, ap, ◌∙◌, arith, eq-eqb, not}
use Rattle.std.proofs.lemmas.Bool.{false_from_ne_true, eqb-true}
use Rattle.std.specs.Int.{bit_at}
use Rattle.loop_data.specs.Names.{is_name_byte}
use Rattle.loop_lines.proofs.Lanes.{lowest_bit}
use Rattle.loop_lines.proofs.NameBytes.{not_false, not_not}
use Rattle.loop_lines.proofs.feeds.count_named.Goals as goal
use Rattle.loop_lines.proofs.feeds.count_named.Goals.{After-min}

-- a bit tells whether its byte stands in no name
tells : (g : _) (c : After-min g) (k : ℕ) → k < g.row.N → eqb (bit_at c.nameless.result k) 1 ≡ not (is_name_byte (get_or c.args.text.now (c.args.at + k) 0))
tells g c k lt = c.nameless.ensures k lt ∙ ap (λ b. not (is_name_byte b)) (c.load.ensures.each k lt)

pub returns-clause-before : goal.returns-clause-before
returns-clause-before g c k lt =
    let low = lowest_bit g.row.N c.nameless.result c.min.result (omega (arith, c.requires.few)) c.nameless.type_inv c.min.ensures in
    let few : k < g.row.N = omega (arith, c.min.ensures) in
    not_false _ (sym (tells g c k few) ∙ false_from_ne_true (eqb (bit_at c.nameless.result k) 1) (λ one. low.0 k lt (eqb-true _ _ one)))

pub returns-clause-here : goal.returns-clause-here
returns-clause-here g c lt =
    let low = lowest_bit g.row.N c.nameless.result c.min.result (omega (arith, c.requires.few)) c.nameless.type_inv c.min.ensures in
    not_not _ (sym (tells g c c.min.result lt) ∙ eq-eqb (bit_at c.nameless.result c.min.result) 1 (low.1 lt))
