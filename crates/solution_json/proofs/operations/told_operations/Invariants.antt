use Rattle.std.proofs.Common.{◌≡◌, map}
use Rattle.std.specs.List.{range_with_len}
use Rattle.serde_json.specs.View.{view}
use Rattle.solution_json.specs.Operations.{operation_object}
use Rattle.solution_json.proofs.operations.told_operations.Given as goal

abbrev pub invariant-loop-op : goal.invariant-loop-op
invariant-loop-op l = map view l.values.items ≡ map (operation_object l.solution) (range_with_len 0 l.op)
