-- The lowest bit that is set is the first cycle in which no slot is held.
use Rattle.std.proofs.Common.{arith}
use Rattle.mrt.proofs.searching.Searching.{lowest_bit, met_from_bit, unmet_from_bit}
use Rattle.mrt.proofs.words.rounds.first_off.Goals as goal

pub returns-clause-met : goal.returns-clause-met
returns-clause-met c held time sooner tell base lt =
    let free = c.free_cycles-free.result in
    let low = lowest_bit free c.min.result c.args.limit c.free_cycles-free.type_inv (omega (arith, c.requires.limit, c.requires.short)) (omega (arith, c.min.ensures, c.from.ensures)) in
    met_from_bit free sooner _ (c.free_cycles-free.ensures.asked held time sooner tell base (omega (arith, lt, c.min.ensures))) (low.0 sooner lt)

pub returns-clause-unmet : goal.returns-clause-unmet
returns-clause-unmet c held time tell base lt =
    let free = c.free_cycles-free.result in
    let low = lowest_bit free c.min.result c.args.limit c.free_cycles-free.type_inv (omega (arith, c.requires.limit, c.requires.short)) (omega (arith, c.min.ensures, c.from.ensures)) in
    unmet_from_bit free c.min.result _ (c.free_cycles-free.ensures.asked held time c.min.result tell base lt) (low.1 lt)
