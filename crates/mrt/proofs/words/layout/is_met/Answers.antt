use Rattle.std.proofs.Common.{◌≡◌, ◌<◌, true, length, get_or, sym, ◌∙◌, arith}
use Rattle.machine_data.specs.Alternative.{residue_of}
use Rattle.mrt.specs.declared.rosters.slot.Slot.{Slot}
use Rattle.mrt.proofs.slots.Owning.{meets_here}
use Rattle.mrt.proofs.words.layout.is_met.Goals as goal

pub returns-then-is_held : goal.returns-then-is_held
returns-then-is_held g c time base =
    let held = g.L.Layout.tells c.args.width c.args.words.now in
    let slots = c.args.slots.now in
    let k = c.loop-slot.slot-index in
    let zero : Slot = record { row = record { unit = 0; offset = 0 }; turn = 0; mask = 0 } in
    let lt : k < length slots = omega arith in
    let row = (get_or slots k zero).row in
    let own : held row.unit (residue_of c.args.ii row time) ≡ true = rw (c.residue.ensures.value time base) at (sym c.is_held.ensures ∙ c.if-is_held.true) in
    sym (meets_here c.args.ii held slots time k zero lt own)
