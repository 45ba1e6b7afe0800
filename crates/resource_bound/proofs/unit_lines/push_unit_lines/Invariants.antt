use Rattle.std.proofs.Common.{◌≡◌, ◌++◌}
use Rattle.std.specs.List.{flat_map, range_with_len}
use Rattle.resource_bound.specs.UnitLines.{unit_line}
use Rattle.resource_bound.proofs.unit_lines.push_unit_lines.Given as goal

abbrev pub invariant-loop-unit : goal.invariant-loop-unit
invariant-loop-unit l = l.text.items ≡ l.initial.text.items ++ flat_map (unit_line l.machine l.innermost l.choices) (range_with_len 0 l.unit)
