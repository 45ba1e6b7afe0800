use Rattle.std.proofs.Common.{◌≡◌, ◌≤◌, take}
use Rattle.std.specs.List.{All}
use Rattle.machine_data.specs.Alternative.{AreAlternatives}
use Rattle.unit_bound.proofs.Most.{most_of}
use Rattle.unit_bound.proofs.units.most_alternatives.Given as goal

abbrev pub invariant-loop-operation : goal.invariant-loop-operation
invariant-loop-operation g l = record {
  greatest : l.most ≡ most_of (take l.operation (g.O.Offers.operations l.operations));
  few : l.most ≤ 16;
  offered : All AreAlternatives (take l.operation (g.O.Offers.operations l.operations));
}
