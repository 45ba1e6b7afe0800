use Rattle.std.proofs.Common.{◌≡◌, map, take}
use Rattle.serde_json.specs.Data.{string}
use Rattle.serde_json.specs.View.{view}
use Rattle.explain_json.specs.Units.{unit_name}
use Rattle.explain_json.proofs.names.told_unit_names.Given as goal

abbrev pub invariant-loop-unit : goal.invariant-loop-unit
invariant-loop-unit l = map view l.values.items ≡ map (λ unit. string (unit_name l.machine unit)) (take l.unit-index l.units)
