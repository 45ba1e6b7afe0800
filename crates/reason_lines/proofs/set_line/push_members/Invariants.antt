use Rattle.std.proofs.Common.{◌≡◌, ◌++◌}
use Rattle.std.specs.List.{flat_map, range_with_len}
use Rattle.reason_lines.specs.SetLines.{member_text}
use Rattle.reason_lines.proofs.set_line.push_members.Given as goal

abbrev pub invariant-loop-unit : goal.invariant-loop-unit
invariant-loop-unit g l = l.text.items ≡ l.initial.text.items ++ flat_map (member_text (g.N.UnitNames.name l.units) l.set) (range_with_len 0 l.unit)
