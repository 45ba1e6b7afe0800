use Rattle.std.proofs.Common.{◌≡◌, map}
use Rattle.std.specs.List.{range_with_len}
use Rattle.serde_json.specs.View.{view}
use Rattle.explain_json.specs.Operations.{placed_object}
use Rattle.explain_json.proofs.operations.told_scheduled.Given as goal

abbrev pub invariant-loop-op : goal.invariant-loop-op
invariant-loop-op l = map view l.values.items ≡ map (placed_object l.prepared l.heights l.schedule l.slacks) (range_with_len 0 l.op)
