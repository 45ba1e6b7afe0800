use Rattle.std.proofs.Common.{◌≡◌, ◌++◌}
use Rattle.std.specs.List.{flat_map, range_with_len}
use Rattle.solution_text.specs.Values.{initials_of}
use Rattle.solution_text.proofs.values.push_carried.Given as goal

abbrev pub invariant-loop-value : goal.invariant-loop-value
invariant-loop-value l = l.text.items ≡ l.initial.text.items ++ flat_map (initials_of l.solution) (range_with_len 0 l.value)
