use Rattle.std.proofs.Common.{◌≡◌, map, take}
use Rattle.serde_json.specs.View.{view}
use Rattle.figures.specs.Slots.{percent_of}
use Rattle.explain_json.specs.Parts.{count_value}
use Rattle.explain_json.proofs.values.told_percents.Given as goal

abbrev pub invariant-loop-unit : goal.invariant-loop-unit
invariant-loop-unit l = map view l.values.items ≡ map (λ unit. count_value (percent_of l.takers unit)) (take l.unit-index l.used)
