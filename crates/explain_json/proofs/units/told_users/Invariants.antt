use Rattle.std.proofs.Common.{◌≡◌, map}
use Rattle.std.specs.List.{flat_map, range_with_len}
use Rattle.serde_json.specs.View.{view}
use Rattle.explain_json.specs.Units.{use_by, user_objects}
use Rattle.explain_json.proofs.units.told_users.Given as goal

abbrev pub invariant-loop-op : goal.invariant-loop-op
invariant-loop-op l = map view l.values.items ≡ flat_map (λ op. user_objects op (use_by l.prepared l.choices l.unit op)) (range_with_len 0 l.op)
