use Rattle.std.proofs.Common.{◌≡◌, ◌++◌}
use Rattle.std.specs.List.{flat_map, range_with_len}
use Rattle.problem_reasons.specs.Units.{unit_line}
use Rattle.problem_reasons.proofs.units.push_unit_lines.Given as goal

abbrev pub invariant-loop-unit : goal.invariant-loop-unit
invariant-loop-unit l = l.text.items ≡ l.initial.text.items ++ flat_map (unit_line l.problem l.choices) (range_with_len 0 l.unit)
