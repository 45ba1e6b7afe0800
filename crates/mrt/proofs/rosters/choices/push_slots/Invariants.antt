use Rattle.std.proofs.Common.{◌≡◌, ◌≤◌, length, take, drop}
use Rattle.std.specs.List.{All}
use Rattle.mrt.specs.inner.Slots.{IsSlot, rows_in}
use Rattle.mrt.proofs.rosters.choices.push_slots.Given as goal

abbrev pub invariant-loop-row : goal.invariant-loop-row
invariant-loop-row l = record {
  slots : All (IsSlot l.ii) l.slots.items;
  kept : take (length l.initial.slots.items) l.slots.items ≡ l.initial.slots.items;
  within : length l.initial.slots.items ≤ length l.slots.items;
  added : rows_in (drop (length l.initial.slots.items) l.slots.items) ≡ take l.row-index l.rows;
}
