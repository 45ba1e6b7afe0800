use Rattle.std.proofs.Common.{◌<◌, ◌≤◌}
use Rattle.unit_sets.specs.inner.Rated.{IsRated}
use Rattle.unit_sets.proofs.Leading.{IsBest}
use Rattle.unit_sets.proofs.fullest.fullest_with.Given as goal

abbrev pub invariant-loop-number : goal.invariant-loop-number
invariant-loop-number g l = record {
  some : 0 < l.number;
  best : IsBest (g.O.Offers.operations l.operations) l.sets l.before l.number l.best.units;
  rated : IsRated (g.O.Offers.operations l.operations) l.best;
  few : l.best.rows ≤ 2048;
  small : l.best.size ≤ 64;
}
