use Rattle.std.proofs.Common.{◌≡◌, ◌*◌, ◌≤◌}
use Rattle.std.specs.List.{range_with_len, sum_by}
use Rattle.explain_json.specs.Units.{use_by}
use Rattle.explain_json.proofs.units.uses_of.Given as goal

abbrev pub invariant-loop-op : goal.invariant-loop-op
invariant-loop-op l = record {
  sum : l.uses ≡ sum_by (use_by l.prepared l.choices l.unit) (range_with_len 0 l.op);
  few : l.uses ≤ 16 * l.op;
}
