use Rattle.std.proofs.Common.{◌≡◌, ◌<◌, length, map, drop, ◌∙◌, rules}
use Rattle.std.specs.List.{All}
use Rattle.std.proofs.lemmas.List.Elements.{All-take, All-drop}
use Rattle.mrt.specs.declared.rosters.slot.Slot.{Slot}
use Rattle.mrt.specs.inner.Choices.{rows_at}
use Rattle.mrt.specs.inner.Slots.{IsSlot}
use Rattle.mrt.proofs.placements.Choosing.{AreChoices-grown, AreChoices-pushed, rows_at-kept, rows_at-pushed, offset_slots}
use Rattle.mrt.proofs.rosters.choices.Choices.push.Goals as goal

pub marks_of-marks-requires : goal.marks_of-marks-requires
marks_of-marks-requires c =
    let from : c.len-start.result ≡ length c.self.inside.slots.items = c.len-start.ensures ∙ c.self.inside.slots.ok.0 in
    let small : All (λ (s : Slot). s.row.offset < 64) (drop (length c.self.inside.slots.items) c.push_slots.new.slots.items) = offset_slots _ _ c.in_ok-push_slots.ensures.added c.requires.offsets in
    let read : All (λ (s : Slot). s.row.offset < 64) (drop c.len-start.result c.deref.result.now) = rw (c.deref.ensures.value, from) small in
    All-take (λ (s : Slot). s.row.offset < 64) _ _ read

pub invariant_of-self : goal.invariant_of-self
invariant_of-self c = AreChoices-grown _ _ _ _ _ c.self.invariant c.push_slots.ensures.slots c.push_slots.ensures.kept

pub invariant_of-self-in_err-push : goal.invariant_of-self-in_err-push
invariant_of-self-in_err-push c =
    rw c.in_err-push.ensures.items (AreChoices-grown _ _ _ _ _ c.self.invariant c.push_slots.ensures.slots c.push_slots.ensures.kept)

pub invariant_of-self-2 : goal.invariant_of-self-2
invariant_of-self-2 c =
    let slots = c.push_slots.ensures.slots in
    let from : c.len-start.result ≡ length c.self.inside.slots.items = c.len-start.ensures ∙ c.self.inside.slots.ok.0 in
    let to : c.len-end.result ≡ length c.push_slots.new.slots.items = c.len-end.ensures ∙ c.push_slots.new.slots.ok.0 in
    let read : All (IsSlot c.self.inside.ii) c.deref.result.now = rw c.deref.ensures.value slots in
    let each = All-take (IsSlot c.self.inside.ii) _ _ (All-drop (IsSlot c.self.inside.ii) c.len-start.result c.deref.result.now read) in
    let units = c.marks_of-marks.ensures.units c.self.inside.ii each in
    let gaps = c.marks_of-marks.ensures.gaps c.self.inside.ii each in
    rw c.in_ok-push.ensures.items (AreChoices-pushed _ _ _ _ _ _ c.self.invariant slots c.push_slots.ensures.kept from to (rw c.deref.ensures.value at units) (rw c.deref.ensures.value at gaps))

pub returns-clause-pushed : goal.returns-clause-pushed
returns-clause-pushed c =
    let from : c.len-start.result ≡ length c.self.inside.slots.items = c.len-start.ensures ∙ c.self.inside.slots.ok.0 in
    let to : c.len-end.result ≡ length c.push_slots.new.slots.items = c.len-end.ensures ∙ c.push_slots.new.slots.ok.0 in
    rw (c.in_ok-push.ensures.items, ← c.self.view_is)
    (rows_at-pushed _ _ _ _ _ c.self.invariant.each_span c.push_slots.ensures.kept from to c.in_ok-push_slots.ensures.added)

pub returns-in_err-push_slots-clause-err : goal.returns-in_err-push_slots-clause-err
returns-in_err-push_slots-clause-err c =
    let same : map (rows_at c.push_slots.new.slots.items) c.self.inside.spans.items ≡ c.args.self.now.alternatives =
    rw (← c.self.view_is) (rows_at-kept _ _ _ c.push_slots.ensures.kept c.self.invariant.each_span) in
    search rules

pub returns-in_err-push-clause-err : goal.returns-in_err-push-clause-err
returns-in_err-push-clause-err c =
    let same : map (rows_at c.push_slots.new.slots.items) c.push.new.self.items ≡ c.args.self.now.alternatives =
    rw (c.in_err-push.ensures.items, ← c.self.view_is) (rows_at-kept _ _ _ c.push_slots.ensures.kept c.self.invariant.each_span) in
    search rules
