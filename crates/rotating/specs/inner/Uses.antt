-- How far and how late the operands of a statement read a value.
use Rattle.std.specs.Prelude.{ℕ, ◌+◌, ◌*◌, List, map, filter_map}
use Rattle.loop_data.specs.declared.language.statement.Operand.{Operand}
use Rattle.unit_bound.specs.Units.{greatest_of}
use Rattle.overlap.specs.Lifetimes.{distance_to}

-- the greatest over the operands' reads of a value, where one is `base`, and `step` more for each iteration that the value is old
abbrev pub greatest_in : ℕ → ℕ → ℕ → List Operand → ℕ
greatest_in value base step operands = greatest_of (map (λ d. base + step * d) (filter_map (distance_to value) operands))
