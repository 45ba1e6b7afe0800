use Rattle.std.proofs.Common.{◌≤◌}
use Rattle.unit_sets.specs.Fullest.{IsReached}
use Rattle.unit_sets.specs.inner.Rated.{IsRated}
use Rattle.unit_sets.proofs.fullest.fullest_of.Given as goal

abbrev pub invariant-loop-round : goal.invariant-loop-round
invariant-loop-round g l = record {
  reached : IsReached l._round (g.O.Offers.operations l.operations) l.best.units;
  rated : IsRated (g.O.Offers.operations l.operations) l.best;
  few : l.best.rows ≤ 2048;
  small : l.best.size ≤ 64;
}
