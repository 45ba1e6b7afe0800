use Rattle.std.proofs.Common.{◌≡◌, ℕ, List, get_or, arith, bit_or}
use Rattle.machine_data.specs.declared.alternative.Row.{Row}
use Rattle.unit_sets.proofs.Leading.{best-next, best-stays, best-of_all}
use Rattle.unit_sets.proofs.fullest.fullest_with.Goals.{then-leads, else-leads}
use Rattle.unit_sets.proofs.fullest.fullest_with.Goals as goal

pub loop-number-preserved : goal.loop-number-preserved
loop-number-preserved g c =
    let operations : List (List (List Row)) = g.O.Offers.operations c.args.operations.now in
    let sets : List ℕ = c.args.sets.now in
    let n = c.loop-number.number in
    let best = c.loop-number.best in
    let next = c.rating_of-next.result in
    let e : next.units ≡ bit_or c.args.before (get_or sets n 0) = c.rating_of-next.ensures.same in
    elim c.if-leads.branch [
      | then-leads w ↦ rw w.best-is (record {
        some = omega arith;
        best = best-next operations sets c.args.before n best.units next.units c.loop-number.invariant.best e
            (c.leads.ensures.yes operations c.rating_of-next.ensures.rated c.loop-number.invariant.rated w.if-leads.true);
        rated = c.rating_of-next.ensures.rated;
        few = c.rating_of-next.ensures.few;
        small = c.rating_of-next.ensures.small;
      })
      | else-leads w ↦ rw w.best-is (record {
        some = omega arith;
        best = best-stays operations sets c.args.before n best.units next.units c.loop-number.invariant.best e
            (c.leads.ensures.no operations c.rating_of-next.ensures.rated c.loop-number.invariant.rated w.if-leads.false);
        rated = c.loop-number.invariant.rated;
        few = c.loop-number.invariant.few;
        small = c.loop-number.invariant.small;
      })
    ]

pub returns-clause-fullest : goal.returns-clause-fullest
returns-clause-fullest g c =
    let operations : List (List (List Row)) = g.O.Offers.operations c.args.operations.now in
    best-of_all operations c.args.sets.now c.args.before c.loop-number.number c.loop-number.best.units c.loop-number-test.false (c.loop-number.auto.number-end c.requires.some) c.requires.sets c.loop-number.invariant.best
