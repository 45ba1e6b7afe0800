use Rattle.std.proofs.Common.{◌≡◌, ◌≢◌, ◌+◌, ◌*◌, ◌-◌, ◌<◌, ◌≤◌, List, [], ◌++◌, ◌==◌, filter, take, length, get_or, ap, ◌∙◌, subst, arith}
use Rattle.std.proofs.lemmas.List.{take_all}
use Rattle.machine_data.specs.declared.alternative.Row.{Row}
use Rattle.unit_bound.specs.Uses.{CountsRows}
use Rattle.unit_bound.proofs.Chosen.{CountsRows-taken, CountsRows-passed}
use Rattle.unit_bound.proofs.units.Uses.with_operations.Goals as goal
use Rattle.unit_bound.proofs.units.Uses.with_operations.Goals.{then-alternatives-freedom, else-alternatives-freedom}

pub with_best-uses-requires-clause-room : goal.with_best-uses-requires-clause-room
with_best-uses-requires-clause-room g c = λ unit.
    let bound : get_or c.loop-operation.uses.counts unit 0 ≤ 2048 * (c.args.freedom - 1) + 16 * c.loop-operation.operation = c.loop-operation.invariant.1 unit in
    let few : length (g.O.Offers.operations c.args.operations.now) ≤ 128 = c.requires.count in
    let within : c.loop-operation.operation < length (g.O.Offers.operations c.args.operations.now) = omega (arith, c.loop-operation-test.true, c.count-operation-end.ensures) in
    omega arith

pub loop-operation-preserved : goal.loop-operation-preserved
loop-operation-preserved g c =
    let operations : List (List (List Row)) = g.O.Offers.operations c.args.operations.now in
    let i = c.loop-operation.operation in
    let uses = c.loop-operation.uses in
    let within : i < length operations = omega (arith, c.loop-operation-test.true, c.count-operation-end.ensures) in
    let same : c.alternatives-alternatives.result.now ≡ get_or operations i [] = c.alternatives-alternatives.ensures.value in
    let more : 16 * (i + 1) ≡ 16 * i + 16 = omega arith in
    elim c.if-alternatives-freedom.branch [
      | then-alternatives-freedom w ↦ rw w.uses-is (
        λ done p. CountsRows-taken done operations i c.args.freedom c.alternatives-alternatives.result.now
            uses.counts w.with_best-uses.result.counts uses.greatest w.with_best-uses.result.greatest
            within same w.if-alternatives-freedom.true w.with_best-uses.ensures.best (c.loop-operation.invariant.0 done p),
        λ unit. let g = w.with_best-uses.ensures.grown _ c.loop-operation.invariant.1 unit in omega arith,
      )
      | else-alternatives-freedom w ↦
          (let other : length (get_or operations i []) ≢ c.args.freedom = λ e. w.if-alternatives-freedom.false (ap length same ∙ e) in
          rw w.uses-is (
            λ done p. CountsRows-passed done operations i c.args.freedom uses.counts uses.greatest within other (c.loop-operation.invariant.0 done p),
            λ unit. let g = c.loop-operation.invariant.1 unit in omega arith,
          ))
    ]

pub returns-clause-taken : goal.returns-clause-taken
returns-clause-taken g c =
    let operations : List (List (List Row)) = g.O.Offers.operations c.args.operations.now in
    let all : take c.loop-operation.operation operations ≡ operations
    = take_all c.loop-operation.operation operations (omega (arith, c.loop-operation-test.false, c.count-operation-end.ensures)) in
    λ done p. subst (λ os. CountsRows (done ++ filter (λ alternatives. length alternatives == c.args.freedom) os) c.loop-operation.uses.counts c.loop-operation.uses.greatest)
    all (c.loop-operation.invariant.0 done p)

pub returns-clause-grown : goal.returns-clause-grown
returns-clause-grown g c = λ unit.
    let bound : get_or c.loop-operation.uses.counts unit 0 ≤ 2048 * (c.args.freedom - 1) + 16 * c.loop-operation.operation = c.loop-operation.invariant.1 unit in
    let few : length (g.O.Offers.operations c.args.operations.now) ≤ 128 = c.requires.count in
    let end : c.loop-operation.operation ≤ c.count-operation-end.result = c.loop-operation.auto.operation-end in
    let count : c.count-operation-end.result ≡ length (g.O.Offers.operations c.args.operations.now) = c.count-operation-end.ensures in
    let some : 0 < c.args.freedom = c.requires.some in
    omega arith
