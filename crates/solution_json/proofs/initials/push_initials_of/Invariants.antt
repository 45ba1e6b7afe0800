use Rattle.std.proofs.Common.{◌≡◌, ◌+◌, ◌++◌, map}
use Rattle.std.specs.List.{filter_map, range_with_len}
use Rattle.serde_json.specs.View.{view}
use Rattle.solution_json.specs.Values.{initial_at}
use Rattle.solution_json.proofs.initials.push_initials_of.Given as goal

abbrev pub invariant-loop-before : goal.invariant-loop-before
invariant-loop-before l = map view l.values.items ≡ map view l.initial.values.items ++ filter_map (λ k. initial_at l.solution l.value (k + 1)) (range_with_len 0 l.before)
