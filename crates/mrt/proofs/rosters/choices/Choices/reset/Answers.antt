use Rattle.std.proofs.Common.{◌≡◌, List, length, map, take, drop, ◌++◌, sym, ap, ◌∙◌}
use Rattle.std.proofs.lemmas.List.{take_at}
use Rattle.mrt.specs.declared.rosters.slot.Slot.{Slot}
use Rattle.mrt.specs.inner.Slots.{slot_at}
use Rattle.mrt.proofs.placements.Choosing.{AreChoices-at, rows_at-reset}
use Rattle.mrt.proofs.rosters.choices.Choices.reset.Goals as goal
use Rattle.mrt.proofs.rosters.choices.Choices.reset.Goals.{After-reset_slots}

slots_of : After-reset_slots → List Slot
slots_of c = take c.self.inside.slots.len (c.reset_slots.new.slots ++ drop (length c.reset_slots.new.slots) c.self.inside.slots.items)

-- the field as it is at the end
slots_are : (c : After-reset_slots) → slots_of c ≡ map (slot_at c.args.ii) c.self.inside.slots.items
unfolding slots_of
slots_are c =
    let slots = c.self.inside.slots in
    let long : length c.reset_slots.new.slots ≡ length slots.items = c.reset_slots.auto.slots ∙ ap length c.deref_mut.ensures.value in
    take_at c.reset_slots.new.slots (drop (length c.reset_slots.new.slots) slots.items) slots.len (long ∙ sym slots.ok.0) ∙ c.reset_slots.ensures ∙ ap (map (slot_at c.args.ii)) c.deref_mut.ensures.value

pub invariant_of-self : goal.invariant_of-self
unfolding slots_of
invariant_of-self c =
    let at = (goal.at.invariant_of-self c).After-reset_slots in
    rw (slots_are at) (AreChoices-at c.self.inside.ii c.self.inside.multiples c.args.ii c.multiples-self-inside.result c.self.inside.slots.items c.self.inside.spans.items c.self.invariant c.requires.some c.requires.few c.multiples-self-inside.ensures)

pub returns-clause-alternatives : goal.returns-clause-alternatives
unfolding slots_of
returns-clause-alternatives c =
    let at = (goal.at.returns-clause-alternatives c).After-reset_slots in
    rw (slots_are at, ← c.self.view_is) (rows_at-reset c.args.ii c.self.inside.slots.items c.self.inside.spans.items)
