use Rattle.std.proofs.Common.{◌≡◌, map}
use Rattle.std.specs.List.{flat_map, range_with_len}
use Rattle.serde_json.specs.View.{view}
use Rattle.explain_json.specs.Kernels.{row_slots}
use Rattle.explain_json.proofs.slots.told_slots.Given as goal

abbrev pub invariant-loop-row : goal.invariant-loop-row
invariant-loop-row l = map view l.values.items ≡ flat_map (row_slots l.takers l.used) (range_with_len 0 l.row)
