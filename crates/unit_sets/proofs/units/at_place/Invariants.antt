use Rattle.std.proofs.Common.{◌≡◌, take}
use Rattle.std.specs.List.{flat_map}
use Rattle.unit_sets.specs.Fullest.{row_at, units_of}
use Rattle.unit_sets.proofs.units.at_place.Given as goal

abbrev pub invariant-loop-alternative : goal.invariant-loop-alternative
invariant-loop-alternative l = l.units ≡ units_of (flat_map (row_at l.place) (take l.alternative-index l.alternatives))
