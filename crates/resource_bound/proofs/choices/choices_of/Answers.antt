use Rattle.std.proofs.Common.{◌≡◌, ◌+◌, ◌*◌, ◌-◌, ◌<◌, ◌≤◌, ◌++◌, ℕ, List, length, take, drop, sym, ap, ◌∙◌, subst, arith}
use Rattle.std.proofs.lemmas.List.{take_at}
use Rattle.machine_data.specs.declared.alternative.Row.{Row}
use Rattle.unit_bound.specs.Uses.{AtMost}
use Rattle.unit_bound.proofs.Passes.{passes}
use Rattle.resource_bound.specs.inner.Tallies.{HasChosen}
use Rattle.resource_bound.proofs.Among.{passed}
use Rattle.resource_bound.proofs.Chosen.{chosen-pass, choices-past}
use Rattle.resource_bound.proofs.choices.choices_of.Goals as goal

pub loop-freedom-preserved : goal.loop-freedom-preserved
loop-freedom-preserved g c =
    let operations : List (List (List Row)) = g.O.Offers.operations c.args.operations.now in
    let freedom = c.loop-freedom.freedom in
    let some : 0 < freedom = c.loop-freedom.invariant.some in
    let n : (freedom + 1) - 1 ≡ freedom = omega arith in
    let old : List ℕ = c.deref_mut.result.now in
    let new : List ℕ = c.choose_among-tally.new.choices in
    let value : old ≡ c.loop-freedom.choices.items = c.deref_mut.ensures.value in
    let each : length c.loop-freedom.choices.items ≡ length operations = c.loop-freedom.invariant.each in
    let kept : length new ≡ length old = c.choose_among-tally.auto.choices in
    let long : length new ≡ c.loop-freedom.choices.len = kept ∙ c.deref_mut.ensures.len in
    let all : take c.loop-freedom.choices.len (new ++ drop (length new) c.loop-freedom.choices.items) ≡ new
    = take_at new (drop (length new) c.loop-freedom.choices.items) c.loop-freedom.choices.len long in
    let before : HasChosen (passes operations (freedom - 1)) (passed operations old (freedom - 1)) c.loop-freedom.tally.counts c.loop-freedom.tally.greatest
    = subst (λ l. HasChosen (passes operations (freedom - 1)) (passed operations l (freedom - 1)) c.loop-freedom.tally.counts c.loop-freedom.tally.greatest) (sym value)
    c.loop-freedom.invariant.chosen in
    rw all (record {
      some = omega arith;
      chosen = chosen-pass operations old new freedom c.choose_among-tally.result.counts c.choose_among-tally.result.greatest some c.choose_among-tally.ensures.kept
          (c.choose_among-tally.ensures.taken (passes operations (freedom - 1)) (passed operations old (freedom - 1)) before);
      room = subst (λ k. AtMost (2048 * k) c.choose_among-tally.result.counts) (sym n) c.choose_among-tally.ensures.grown;
      each = kept ∙ ap length value ∙ each;
    })

pub returns : goal.returns
returns g c =
    let past : c.most_alternatives-most.result + 1 ≤ c.loop-freedom.freedom = c.loop-freedom-test.false in
    let end : c.loop-freedom.freedom ≤ c.most_alternatives-most.result + 1 = c.loop-freedom.auto.freedom-end (omega arith) in
    let at : c.loop-freedom.freedom - 1 ≡ c.most_alternatives-most.result = omega arith in
    record {
      exact = choices-past (g.O.Offers.operations c.args.operations.now) c.loop-freedom.choices.items c.most_alternatives-most.result (c.loop-freedom.freedom - 1)
          c.loop-freedom.tally.counts c.loop-freedom.tally.greatest at c.most_alternatives-most.ensures.all c.most_alternatives-most.ensures.few
          c.loop-freedom.invariant.chosen c.loop-freedom.invariant.each;
    }
