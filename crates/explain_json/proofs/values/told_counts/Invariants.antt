use Rattle.std.proofs.Common.{◌≡◌, map, take}
use Rattle.serde_json.specs.View.{view}
use Rattle.explain_json.specs.Parts.{count_value}
use Rattle.explain_json.proofs.values.told_counts.Given as goal

abbrev pub invariant-loop-count : goal.invariant-loop-count
invariant-loop-count l = map view l.values.items ≡ map count_value (take l.count-index l.counts)
