use Rattle.std.proofs.Common.{◌≡◌, ◌<◌, ℕ, List, length, Option, Some, get_or, sym, ap, ◌∙◌, arith}
use Rattle.std.specs.Global.{Global}
use Rattle.std.specs.Prelude.{Vec}
use Rattle.std.proofs.lemmas.List.{get_or-map, length-map}
use Rattle.std.proofs.lemmas.List.FromFn.{get_or-map-range_with_len, length-map-range_with_len}
use Rattle.loop_schedules.specs.Schedules.{ScheduleData}
use Rattle.figures.specs.Slots.{slot_taker}
use Rattle.figures.proofs.Busy.{taker-below}
use Rattle.schedule_lines.specs.SlotTexts.{label_of, slot_text, taker_text}
use Rattle.schedule_lines.specs.inner.Labels.{labels_of, texts_in}
use Rattle.schedule_lines.proofs.slots.Slots.text.Goals as goal

labels-count : (schedule : ScheduleData) (labels : List (Vec ℕ Global)) → texts_in labels ≡ labels_of schedule → length labels ≡ length schedule.problem.operations
labels-count schedule labels e =
    sym (length-map labels (λ (label : Vec ℕ Global). label.items)) ∙ ap length e ∙ length-map-range_with_len (label_of schedule) 0 (length schedule.problem.operations)

-- what stands in a slot, by the operation that takes it
taken-text : (schedule takers : ScheduleData) (unit row : ℕ) (taker given : Option ℕ) → takers ≡ schedule → taker ≡ slot_taker takers unit row → taker ≡ given → taker_text schedule given ≡ slot_text schedule unit row
unfolding slot_text
taken-text schedule takers unit row taker given same is e = ap (taker_text schedule) (sym e ∙ is ∙ ap (λ s. slot_taker s unit row) same)

pub index-requires : goal.index-requires
index-requires c =
    let schedule = c.self.inside.schedule.now in
    let takers = c.self.inside.takers in
    let there = taker-below takers c.args.unit c.args.row c.in-Some.op (sym c.taker.ensures ∙ c.in-Some.is) in
    let same = ap (λ (s : ScheduleData). length s.problem.operations) c.self.invariant.0 in
    let count = labels-count schedule c.self.inside.labels.items c.self.invariant.1 in
    omega (arith, c.self.inside.labels.ok.0)

pub returns-in-Some : goal.returns-in-Some
returns-in-Some c =
    let schedule = c.self.inside.schedule.now in
    let takers = c.self.inside.takers in
    let labels : List (Vec ℕ Global) = c.self.inside.labels.items in
    let op = c.in-Some.op in
    let label : Vec ℕ Global = c.index.result.now in
    let there : op < length takers.problem.operations = taker-below takers c.args.unit c.args.row op (sym c.taker.ensures ∙ c.in-Some.is) in
    let same = ap (λ (s : ScheduleData). length s.problem.operations) c.self.invariant.0 in
    let count = labels-count schedule labels c.self.invariant.1 in
    let label_is : label.items ≡ label_of schedule op
    = ap (λ (text : Vec ℕ Global). text.items) c.index.ensures ∙ sym (get_or-map (λ (text : Vec ℕ Global). text.items) labels op label label.items (omega arith))
    ∙ ap (λ (ts : List (List ℕ)). get_or ts op label.items) c.self.invariant.1
    ∙ get_or-map-range_with_len (label_of schedule) 0 (length schedule.problem.operations) op op label.items (omega arith) (omega arith) in
    c.as_slice.ensures.value ∙ label_is ∙ taken-text schedule takers c.args.unit c.args.row c.taker.result (Some op) c.self.invariant.0 c.taker.ensures c.in-Some.is
    ∙ ap (λ s. slot_text s c.args.unit c.args.row) c.self.view_is

pub returns-in-None : goal.returns-in-None
returns-in-None c =
    taken-text c.self.inside.schedule.now c.self.inside.takers c.args.unit c.args.row c.taker.result _ c.self.invariant.0 c.taker.ensures c.in-None.is
    ∙ ap (λ s. slot_text s c.args.unit c.args.row) c.self.view_is
