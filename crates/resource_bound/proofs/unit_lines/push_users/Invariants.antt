use Rattle.std.proofs.Common.{◌≡◌, ◌++◌}
use Rattle.std.specs.List.{flat_map, range_with_len}
use Rattle.unit_bound.specs.Units.{use_of}
use Rattle.graph.specs.Units.{operations_of}
use Rattle.resource_bound.specs.Choices.{rows_at}
use Rattle.resource_bound.specs.UnitLines.{user_text}
use Rattle.resource_bound.proofs.unit_lines.push_users.Given as goal

abbrev pub invariant-loop-number : goal.invariant-loop-number
invariant-loop-number l = l.text.items ≡ l.initial.text.items
    ++ flat_map (λ number. user_text l.innermost number (use_of (rows_at (operations_of l.machine l.innermost) l.choices number) l.unit)) (range_with_len 0 l.number)
