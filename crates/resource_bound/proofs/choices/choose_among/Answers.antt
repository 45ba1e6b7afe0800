use Rattle.std.proofs.Common.{◌≡◌, ◌≢◌, ◌+◌, ◌*◌, ◌-◌, ◌<◌, ◌≤◌, List, [], ◌++◌, ◌==◌, filter, take, length, get_or, sym, ap, ◌∙◌, subst, arith}
use Rattle.std.proofs.lemmas.List.{take_all}
use Rattle.machine_data.specs.declared.alternative.Row.{Row}
use Rattle.resource_bound.specs.Choices.{choices_among}
use Rattle.resource_bound.specs.inner.Tallies.{HasChosen}
use Rattle.resource_bound.proofs.Among.{among-other}
use Rattle.resource_bound.proofs.Chosen.{chosen-taken, chosen-passed}
use Rattle.resource_bound.proofs.choices.choose_among.Goals as goal
use Rattle.resource_bound.proofs.choices.choose_among.Goals.{then-alternatives-freedom, else-alternatives-freedom}

pub choose-choice-requires-clause-room : goal.choose-choice-requires-clause-room
choose-choice-requires-clause-room g c = λ unit.
    let bound : get_or c.loop-number.tally.counts unit 0 ≤ 2048 * (c.args.freedom - 1) + 16 * c.loop-number.number = c.loop-number.invariant.room unit in
    let few : length (g.O.Offers.operations c.args.operations.now) ≤ 128 = c.requires.count in
    let within : c.loop-number.number < length (g.O.Offers.operations c.args.operations.now) = omega (arith, c.loop-number-test.true, c.count-number-end.ensures) in
    omega arith

pub loop-number-preserved : goal.loop-number-preserved
loop-number-preserved g c =
    let operations : List (List (List Row)) = g.O.Offers.operations c.args.operations.now in
    let i = c.loop-number.number in
    let choices = c.loop-number.choices in
    let tally = c.loop-number.tally in
    let within : i < length operations = omega (arith, c.loop-number-test.true, c.count-number-end.ensures) in
    let there : i < length choices = omega (arith, c.loop-number.auto.choices, c.requires.each) in
    let same : c.alternatives-alternatives.result.now ≡ get_or operations i [] = c.alternatives-alternatives.ensures.value in
    let more : 16 * (i + 1) ≡ 16 * i + 16 = omega arith in
    elim c.if-alternatives-freedom.branch [
      | then-alternatives-freedom w ↦
          (let next = w.choose-choice.result in
          rw (w.choices-is, w.tally-is) (record {
            taken = λ done made p. chosen-taken done operations made choices i c.args.freedom next.number c.alternatives-alternatives.result.now
                tally.counts next.tally.counts tally.greatest next.tally.greatest
                within there same w.if-alternatives-freedom.true w.choose-choice.ensures.best (c.loop-number.invariant.taken done made p);
            kept = λ n ne. among-other operations choices i next.number n (λ e. ne (sym e ∙ sym (ap length same) ∙ w.if-alternatives-freedom.true)) ∙ c.loop-number.invariant.kept n ne;
            room = λ unit. let g = w.choose-choice.ensures.grown _ c.loop-number.invariant.room unit in omega arith;
          }))
      | else-alternatives-freedom w ↦
          (let other : length (get_or operations i []) ≢ c.args.freedom = λ e. w.if-alternatives-freedom.false (ap length same ∙ e) in
          rw (w.choices-is, w.tally-is) (record {
            taken = λ done made p. chosen-passed done operations made choices i c.args.freedom tally.counts tally.greatest within other (c.loop-number.invariant.taken done made p);
            kept = c.loop-number.invariant.kept;
            room = λ unit. let g = c.loop-number.invariant.room unit in omega arith;
          }))
    ]

pub returns-clause-taken : goal.returns-clause-taken
returns-clause-taken g c =
    let operations : List (List (List Row)) = g.O.Offers.operations c.args.operations.now in
    let all : take c.loop-number.number operations ≡ operations
    = take_all c.loop-number.number operations (omega (arith, c.loop-number-test.false, c.count-number-end.ensures)) in
    λ done made p. subst (λ os. HasChosen (done ++ filter (λ alternatives. length alternatives == c.args.freedom) os) (made ++ choices_among os c.loop-number.choices c.args.freedom)
    c.loop-number.tally.counts c.loop-number.tally.greatest) all (c.loop-number.invariant.taken done made p)

pub returns-clause-grown : goal.returns-clause-grown
returns-clause-grown g c = λ unit.
    let bound : get_or c.loop-number.tally.counts unit 0 ≤ 2048 * (c.args.freedom - 1) + 16 * c.loop-number.number = c.loop-number.invariant.room unit in
    let few : length (g.O.Offers.operations c.args.operations.now) ≤ 128 = c.requires.count in
    let end : c.loop-number.number ≤ c.count-number-end.result = c.loop-number.auto.number-end in
    let count : c.count-number-end.result ≡ length (g.O.Offers.operations c.args.operations.now) = c.count-number-end.ensures in
    let some : 0 < c.args.freedom = c.requires.some in
    omega arith
