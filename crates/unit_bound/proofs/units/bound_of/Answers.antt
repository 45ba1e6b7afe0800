use Rattle.std.proofs.Common.{◌≡◌, ◌+◌, ◌*◌, ◌-◌, ◌<◌, ◌≤◌, List, length, sym, subst, arith}
use Rattle.std.specs.List.{All}
use Rattle.machine_data.specs.declared.alternative.Row.{Row}
use Rattle.unit_bound.specs.Units.{by_freedom}
use Rattle.unit_bound.specs.Uses.{AtMost, CountsRows}
use Rattle.unit_bound.proofs.UnitBound.{CountsRows-all, IsUnitBound-from, bound-le-interval, bound-range}
use Rattle.unit_bound.proofs.Most.{All-most}
use Rattle.unit_bound.proofs.Passes.{passes, passes-more}
use Rattle.unit_bound.proofs.Tally.{CountsRows-none, AtMost-none}
use Rattle.unit_bound.proofs.units.bound_of.Goals as goal
use Rattle.unit_bound.proofs.units.bound_of.Goals.{else-loop-freedom-test, then-loop-freedom-test+else-freedom-most}

pub loop-freedom-init : goal.loop-freedom-init
loop-freedom-init g c = (omega arith, CountsRows-none, AtMost-none)

pub loop-freedom-preserved : goal.loop-freedom-preserved
loop-freedom-preserved g c =
    let operations : List (List (List Row)) = g.O.Offers.operations c.args.operations.now in
    let some : 0 < c.loop-freedom.freedom = c.loop-freedom.invariant.0 in
    let n : (c.loop-freedom.freedom + 1) - 1 ≡ c.loop-freedom.freedom = omega arith in (
      omega arith,
      subst (λ l. CountsRows l c.with_operations-uses.result.counts c.with_operations-uses.result.greatest) (passes-more operations c.loop-freedom.freedom some)
          (c.with_operations-uses.ensures.taken (passes operations (c.loop-freedom.freedom - 1)) c.loop-freedom.invariant.1),
      subst (λ k. AtMost (2048 * k) c.with_operations-uses.result.counts) (sym n) c.with_operations-uses.ensures.grown,
    )

-- the loop is left before its first pass, where no operation has an alternative, or after its last
pub returns-clause-exact : goal.returns-clause-exact
returns-clause-exact g c =
    let operations : List (List (List Row)) = g.O.Offers.operations c.args.operations.now in
    let most = c.most_alternatives-most.result in
    let freedom = c.loop-freedom.freedom in
    let low : most ≤ 16 = c.most_alternatives-most.ensures.few in
    let few : All (λ alternatives. length alternatives ≤ most) operations = All-most operations most (omega (arith, c.most_alternatives-most.ensures.greatest)) in
    let taken : CountsRows (by_freedom operations) c.loop-freedom-test.uses.counts c.loop-freedom-test.uses.greatest
    = elim c.loop-freedom-test.branch [
      | else-loop-freedom-test w ↦
          (let past : most < freedom = w.loop-freedom-test.false in
          rw w.uses-is (CountsRows-all operations most (freedom - 1) c.loop-freedom.uses.counts c.loop-freedom.uses.greatest few low (omega arith) c.loop-freedom.invariant.1))
      | then-loop-freedom-test+else-freedom-most w ↦
          (let some : 0 < freedom = c.loop-freedom.invariant.0 in
          let last : most ≤ (freedom + 1) - 1 = omega arith in
          let passed : CountsRows (passes operations ((freedom + 1) - 1)) w.with_operations-uses.result.counts w.with_operations-uses.result.greatest
          = subst (λ l. CountsRows l w.with_operations-uses.result.counts w.with_operations-uses.result.greatest) (passes-more operations freedom some)
          (w.with_operations-uses.ensures.taken (passes operations (freedom - 1)) c.loop-freedom.invariant.1) in
          rw w.uses-is (CountsRows-all operations most ((freedom + 1) - 1) w.with_operations-uses.result.counts w.with_operations-uses.result.greatest few low last passed))
    ] in
    IsUnitBound-from operations c.loop-freedom-test.uses.counts c.loop-freedom-test.uses.greatest c.from.result taken c.from.ensures

pub returns-clause-below : goal.returns-clause-below
returns-clause-below g c = bound-le-interval (g.O.Offers.operations c.args.operations.now) c.from.result (returns-clause-exact g c)

pub returns-clause-from_one : goal.returns-clause-from_one
returns-clause-from_one g c =
    (bound-range (g.O.Offers.operations c.args.operations.now) c.from.result (returns-clause-exact g c) c.most_alternatives-most.ensures.offered c.requires.some).0

pub returns-clause-range : goal.returns-clause-range
returns-clause-range g c =
    let r = bound-range (g.O.Offers.operations c.args.operations.now) c.from.result (returns-clause-exact g c) c.most_alternatives-most.ensures.offered c.requires.some in
    omega (arith, r.1, c.requires.count)
