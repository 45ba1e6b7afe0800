use Rattle.std.proofs.Common.{ℕ, Option, ◌++◌, ap, map, ◌∙◌}
use Rattle.std.specs.Prelude.{slice_index}
use Rattle.serde_json.specs.View.{view}
use Rattle.figures.specs.Slots.{slot_taker}
use Rattle.explain_json.specs.Kernels.{slot_objects}
use Rattle.explain_json.proofs.Lists.{several-more}
use Rattle.explain_json.proofs.slots.push_row.Goals as goal

pub loop-place-preserved : goal.loop-place-preserved
loop-place-preserved c =
    several-more (λ (place : ℕ). slot_objects c.args.row place (slot_taker c.args.takers.now (slice_index c.args.used.now place) c.args.row)) c.loop-place.place (map view c.args.values.now.items)
    (map view c.loop-place.values.items) (map view c.push_slot.new.values.items) c.loop-place.invariant
    (c.in_ok-push_slot.ensures.ok ∙ ap (λ (taker : Option ℕ). map view c.loop-place.values.items ++ slot_objects c.args.row c.loop-place.place taker) c.taker.ensures)
