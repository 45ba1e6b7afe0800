use Rattle.std.proofs.Common.{◌≡◌, ◌≢◌, ℕ, ◌+◌, ◌*◌, ◌-◌, ◌==◌, List, ◌++◌, length, take, filter}
use Rattle.machine_data.specs.declared.alternative.Row.{Row}
use Rattle.unit_bound.specs.Uses.{AtMost}
use Rattle.resource_bound.specs.Choices.{choices_among}
use Rattle.resource_bound.specs.inner.Tallies.{HasChosen}
use Rattle.resource_bound.proofs.choices.choose_among.Given as goal

abbrev pub invariant-loop-number : goal.invariant-loop-number
invariant-loop-number g l = record {
  taken : (done : List (List (List Row))) (made : List ℕ) → HasChosen done made l.fn.counted.counts l.fn.counted.greatest
      → HasChosen (done ++ filter (λ alternatives. length alternatives == l.freedom) (take l.number (g.O.Offers.operations l.operations)))
      (made ++ choices_among (take l.number (g.O.Offers.operations l.operations)) l.choices l.freedom) l.tally.counts l.tally.greatest;
  kept : (n : ℕ) → n ≢ l.freedom → choices_among (g.O.Offers.operations l.operations) l.choices n ≡ choices_among (g.O.Offers.operations l.operations) l.initial.choices n;
  room : AtMost (2048 * (l.freedom - 1) + 16 * l.number) l.tally.counts;
}
