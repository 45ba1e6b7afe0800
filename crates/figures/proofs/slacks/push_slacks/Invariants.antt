use Rattle.std.proofs.Common.{◌≡◌, ◌<◌, ◌≤◌, ℕ, length, vec_len}
use Rattle.std.specs.Prelude.{slice_index, vec_capacity}
use Rattle.figures.specs.Slacks.{IsSlack}
use Rattle.figures.proofs.slacks.push_slacks.Given as goal

abbrev pub invariant-loop-op : goal.invariant-loop-op
invariant-loop-op l = record {
  room : length l.schedule.problem.operations ≤ vec_capacity l.list;
  count : vec_len l.list ≡ l.op;
  long : length l.list.items ≡ l.op;
  each : (op : ℕ) → op < l.op → IsSlack l.schedule op (slice_index l.list.items op);
}
