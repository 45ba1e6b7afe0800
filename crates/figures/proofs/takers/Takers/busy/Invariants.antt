use Rattle.std.proofs.Common.{◌≡◌, ◌≤◌}
use Rattle.std.specs.Prelude.{count_by, is_some}
use Rattle.std.specs.List.{range_with_len}
use Rattle.figures.specs.Slots.{slot_taker}
use Rattle.figures.proofs.takers.Takers.busy.Given as goal

abbrev pub invariant-loop-row : goal.invariant-loop-row
invariant-loop-row l = record {
  few : l.busy ≤ l.row;
  counted : l.busy ≡ count_by (λ row. is_some (slot_taker l.self l.unit row)) (range_with_len 0 l.row);
}
