use Rattle.std.proofs.Common.{◌≡◌, ◌+◌, ◌++◌}
use Rattle.std.specs.List.{flat_map, range_with_len}
use Rattle.solution_text.specs.Values.{initial_line}
use Rattle.solution_text.proofs.values.push_initials_of.Given as goal

abbrev pub invariant-loop-before : goal.invariant-loop-before
invariant-loop-before l = l.text.items ≡ l.initial.text.items ++ flat_map (λ k. initial_line l.solution l.value (k + 1)) (range_with_len 0 l.before)
