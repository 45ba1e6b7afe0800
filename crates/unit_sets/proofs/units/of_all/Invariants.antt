use Rattle.std.proofs.Common.{◌≡◌, take}
use Rattle.std.specs.List.{flat_map}
use Rattle.unit_sets.specs.Fullest.{all_rows, units_of}
use Rattle.unit_sets.proofs.units.of_all.Given as goal

abbrev pub invariant-loop-number : goal.invariant-loop-number
invariant-loop-number g l = l.units ≡ units_of (flat_map all_rows (take l.number (g.O.Offers.operations l.operations)))
