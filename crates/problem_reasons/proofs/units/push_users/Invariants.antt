use Rattle.std.proofs.Common.{◌≡◌, ◌++◌}
use Rattle.std.specs.List.{flat_map, range_with_len}
use Rattle.unit_bound.specs.Units.{use_of}
use Rattle.resource_bound.specs.Choices.{rows_at}
use Rattle.problem_reasons.specs.Units.{user_text}
use Rattle.problem_reasons.proofs.units.push_users.Given as goal

abbrev pub invariant-loop-op : goal.invariant-loop-op
invariant-loop-op l = l.text.items ≡ l.initial.text.items
    ++ flat_map (λ op. user_text l.problem.draft op (use_of (rows_at l.problem.scheduling.operations l.choices op) l.unit)) (range_with_len 0 l.op)
