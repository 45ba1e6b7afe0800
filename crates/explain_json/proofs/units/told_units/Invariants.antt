use Rattle.std.proofs.Common.{◌≡◌, map}
use Rattle.std.specs.List.{flat_map, range_with_len}
use Rattle.serde_json.specs.View.{view}
use Rattle.explain_json.specs.Units.{unit_objects, uses_of}
use Rattle.explain_json.proofs.units.told_units.Given as goal

abbrev pub invariant-loop-unit : goal.invariant-loop-unit
invariant-loop-unit l = map view l.values.items ≡ flat_map (λ unit. unit_objects l.machine l.prepared l.choices unit (uses_of l.prepared l.choices unit)) (range_with_len 0 l.unit)
