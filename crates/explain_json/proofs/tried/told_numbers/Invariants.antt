use Rattle.std.proofs.Common.{◌≡◌, map, take}
use Rattle.serde_json.specs.View.{view}
use Rattle.explain_json.specs.Parts.{count_value}
use Rattle.explain_json.proofs.tried.told_numbers.Given as goal

abbrev pub invariant-loop-op : goal.invariant-loop-op
invariant-loop-op l = map view l.values.items ≡ map count_value (take l.op-index l.ops)
