use Rattle.std.proofs.Common.{◌≡◌, ◌++◌, map, take, drop}
use Rattle.mrt.specs.inner.Slots.{slot_at}
use Rattle.mrt.proofs.rosters.choices.reset_slots.Given as goal

-- the slots so far are at the new interval
abbrev pub invariant-loop-slot : goal.invariant-loop-slot
invariant-loop-slot l = l.slots ≡ map (slot_at l.ii) (take l.slot-index l.initial.slots) ++ drop l.slot-index l.initial.slots
