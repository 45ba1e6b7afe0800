use Rattle.std.proofs.Common.{◌*◌, ◌-◌, ◌<◌}
use Rattle.unit_bound.specs.Uses.{AtMost, CountsRows}
use Rattle.unit_bound.proofs.Passes.{passes}
use Rattle.unit_bound.proofs.units.bound_of.Given as goal

abbrev pub invariant-loop-freedom : goal.invariant-loop-freedom
invariant-loop-freedom g l =
    (0 < l.freedom) × CountsRows (passes (g.O.Offers.operations l.operations) (l.freedom - 1)) l.uses.counts l.uses.greatest
    × AtMost (2048 * (l.freedom - 1)) l.uses.counts
