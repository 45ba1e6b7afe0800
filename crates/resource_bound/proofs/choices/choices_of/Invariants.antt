use Rattle.std.proofs.Common.{◌≡◌, ◌*◌, ◌-◌, ◌<◌, length}
use Rattle.unit_bound.specs.Uses.{AtMost}
use Rattle.unit_bound.proofs.Passes.{passes}
use Rattle.resource_bound.specs.inner.Tallies.{HasChosen}
use Rattle.resource_bound.proofs.Among.{passed}
use Rattle.resource_bound.proofs.choices.choices_of.Given as goal

abbrev pub invariant-loop-freedom : goal.invariant-loop-freedom
invariant-loop-freedom g l = record {
  some : 0 < l.freedom;
  chosen : HasChosen (passes (g.O.Offers.operations l.operations) (l.freedom - 1)) (passed (g.O.Offers.operations l.operations) l.choices.items (l.freedom - 1)) l.tally.counts l.tally.greatest;
  room : AtMost (2048 * (l.freedom - 1)) l.tally.counts;
  each : length l.choices.items ≡ length (g.O.Offers.operations l.operations);
}
