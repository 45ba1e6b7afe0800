use Rattle.std.proofs.Common.{◌≡◌, ◌∷◌, map}
use Rattle.std.specs.List.{range_with_len}
use Rattle.schedule_lines.specs.Columns.{unit_name, width_of}
use Rattle.schedule_lines.specs.SlotTexts.{slot_text}
use Rattle.schedule_lines.proofs.grids.columns.unit_width.Given as goal

abbrev pub invariant-loop-row : goal.invariant-loop-row
invariant-loop-row l = l.width ≡ width_of (unit_name l.machine l.unit ∷ map (slot_text l.slots l.unit) (range_with_len 0 l.row))
