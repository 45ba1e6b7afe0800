use Rattle.std.proofs.Common.{◌≡◌, map}
use Rattle.std.specs.List.{range_with_len}
use Rattle.serde_json.specs.View.{view}
use Rattle.solution_json.specs.Values.{value_object}
use Rattle.solution_json.proofs.values.told_values.Given as goal

abbrev pub invariant-loop-value : goal.invariant-loop-value
invariant-loop-value l = map view l.values.items ≡ map (value_object l.solution) (range_with_len 0 l.value)
