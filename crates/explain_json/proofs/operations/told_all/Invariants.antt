use Rattle.std.proofs.Common.{◌≡◌, map}
use Rattle.std.specs.List.{range_with_len}
use Rattle.serde_json.specs.View.{view}
use Rattle.explain_json.specs.Operations.{operation_object}
use Rattle.explain_json.proofs.operations.told_all.Given as goal

abbrev pub invariant-loop-op : goal.invariant-loop-op
invariant-loop-op l = map view l.values.items ≡ map (operation_object l.prepared l.heights) (range_with_len 0 l.op)
