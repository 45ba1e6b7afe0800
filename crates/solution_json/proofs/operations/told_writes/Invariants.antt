use Rattle.std.proofs.Common.{◌≡◌, map}
use Rattle.std.specs.List.{filter_map, range_with_len}
use Rattle.serde_json.specs.View.{view}
use Rattle.solution_json.specs.Operations.{write_register}
use Rattle.solution_json.specs.Parts.{register_object}
use Rattle.solution_json.proofs.operations.told_writes.Given as goal

abbrev pub invariant-loop-value : goal.invariant-loop-value
invariant-loop-value l = map view l.values.items ≡ map (register_object l.solution.problem.draft) (filter_map (write_register l.solution l.op) (range_with_len 0 l.value))
