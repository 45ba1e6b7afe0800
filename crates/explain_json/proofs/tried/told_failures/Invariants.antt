use Rattle.std.proofs.Common.{◌≡◌, map, take}
use Rattle.serde_json.specs.View.{view}
use Rattle.explain_json.specs.Tries.{failures_from}
use Rattle.explain_json.proofs.tried.told_failures.Given as goal

abbrev pub invariant-loop-number : goal.invariant-loop-number
invariant-loop-number l = map view l.values.items ≡ failures_from l.least (take l.number l.reasons)
