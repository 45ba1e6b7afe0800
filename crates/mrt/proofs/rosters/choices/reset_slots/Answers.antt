use Rattle.std.proofs.Common.{◌<◌, length, get_or, arith}
use Rattle.std.proofs.lemmas.List.{get_or_default}
use Rattle.std.proofs.lemmas.List.Edits.{map_over_more}
use Rattle.mrt.specs.declared.rosters.slot.Slot.{Slot}
use Rattle.mrt.specs.inner.Slots.{slot_at}
use Rattle.mrt.proofs.rosters.choices.reset_slots.Goals as goal

pub loop-slot-preserved : goal.loop-slot-preserved
loop-slot-preserved c =
    let slots = c.loop-slot.slots in
    let i = c.loop-slot.slot-index in
    let zero : Slot = record { row = record { unit = 0; offset = 0 }; turn = 0; mask = 0 } in
    let lt : i < length slots = omega arith in
    rw c.reset.ensures (map_over_more (slot_at c.args.ii) c.args.slots.now slots i (get_or slots i zero) c.loop-slot-test.true c.loop-slot.invariant (get_or_default slots i zero (get_or slots i zero) lt))
