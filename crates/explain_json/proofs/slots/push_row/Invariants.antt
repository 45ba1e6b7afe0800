use Rattle.std.proofs.Common.{◌≡◌, ◌++◌, map}
use Rattle.std.specs.Prelude.{slice_index}
use Rattle.std.specs.List.{flat_map, range_with_len}
use Rattle.serde_json.specs.View.{view}
use Rattle.figures.specs.Slots.{slot_taker}
use Rattle.explain_json.specs.Kernels.{slot_objects}
use Rattle.explain_json.proofs.slots.push_row.Given as goal

abbrev pub invariant-loop-place : goal.invariant-loop-place
invariant-loop-place l = map view l.values.items
    ≡ map view l.initial.values.items ++ flat_map (λ place. slot_objects l.row place (slot_taker l.takers (slice_index l.used place) l.row)) (range_with_len 0 l.place)
