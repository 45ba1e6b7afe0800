use Rattle.std.proofs.Common.{◌≡◌, ℕ, ◌+◌, ◌<◌, length, max, nat_cmp, rules, sym, ap, ◌∙◌, arith}
use Rattle.std.specs.Ordering.{ord_max}
use Rattle.std.specs.List.{All}
use Rattle.std.proofs.lemmas.List.{take_all}
use Rattle.mrt.specs.declared.rosters.slot.Slot.{Slot}
use Rattle.mrt.specs.inner.Slots.{IsSlot}
use Rattle.mrt.proofs.placements.Choosing.{covered_more, rows_at-covered}
use Rattle.mrt.proofs.rosters.choices.Choices.units.Goals as goal

greater : (a b : ℕ) → ord_max nat_cmp a b ≡ max a b
greater a b = search rules

pub loop-slot-preserved : goal.loop-slot-preserved
loop-slot-preserved c =
    let slots = c.deref-slot-items.result.now in
    let k = c.loop-slot.slot-index in
    let zero : Slot = record { row = record { unit = 0; offset = 0 }; turn = 0; mask = 0 } in
    let lt : k < length slots = omega arith in
    let each : All (IsSlot c.self.inside.ii) slots = rw c.deref-slot-items.ensures.value c.self.invariant.each_slot in
    covered_more c.loop-slot.units c.max-units.result slots k zero lt c.loop-slot.invariant (each k zero lt).unit (c.max-units.ensures ∙ greater c.loop-slot.units (c.from.result + 1) ∙ ap (λ n. max c.loop-slot.units (n + 1)) c.from.ensures)

pub returns-clause-covered : goal.returns-clause-covered
returns-clause-covered c =
    let units = c.loop-slot.units in
    let same = sym c.deref-slot-items.ensures.value ∙ sym (take_all c.loop-slot.slot-index c.deref-slot-items.result.now (omega arith)) in
    let all : All (λ s. s.row.unit < units) c.self.inside.slots.items = rw same c.loop-slot.invariant.1 in
    rw (← c.self.view_is) (rows_at-covered units c.self.inside.slots.items c.self.inside.spans.items all)
