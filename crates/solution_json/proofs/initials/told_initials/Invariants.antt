use Rattle.std.proofs.Common.{◌≡◌, map}
use Rattle.std.specs.List.{flat_map, range_with_len}
use Rattle.serde_json.specs.View.{view}
use Rattle.solution_json.specs.Values.{initials_of}
use Rattle.solution_json.proofs.initials.told_initials.Given as goal

abbrev pub invariant-loop-value : goal.invariant-loop-value
invariant-loop-value l = map view l.values.items ≡ flat_map (initials_of l.solution) (range_with_len 0 l.value)
