-- The lowest bit that is set is the first cycle in which no slot is held.
use Rattle.std.proofs.Common.{arith}
use Rattle.mrt.proofs.searching.Searching.{lowest_bit, met_from_bit, unmet_from_bit}
use Rattle.mrt.proofs.words.masks.first_of_eight.Goals as goal

pub returns-clause-met : goal.returns-clause-met
returns-clause-met c time sooner base lt =
    let free = c.free_cycles-free.result in
    let low = lowest_bit free c.min.result 8 c.free_cycles-free.type_inv (omega arith) (omega (arith, c.min.ensures, c.from.ensures)) in
    met_from_bit free sooner _ (c.free_cycles-free.ensures.asked time sooner base (omega (arith, lt, c.min.ensures))) (low.0 sooner lt)

pub returns-clause-unmet : goal.returns-clause-unmet
returns-clause-unmet c time base lt =
    let free = c.free_cycles-free.result in
    let low = lowest_bit free c.min.result 8 c.free_cycles-free.type_inv (omega arith) (omega (arith, c.min.ensures, c.from.ensures)) in
    unmet_from_bit free c.min.result _ (c.free_cycles-free.ensures.asked time c.min.result base lt) (low.1 lt)
