use Rattle.std.proofs.Common.{◌≡◌, ◌<◌, ℕ, length, get_or}
use Rattle.shared_runs.specs.declared.made.Made.{Made}
use Rattle.shared_runs.specs.inner.Made.{IsMadeOf}
use Rattle.shared_runs.proofs.made.made_in_order.Given as goal

abbrev pub invariant-loop-number : goal.invariant-loop-number
invariant-loop-number l = record {
  many : length l.made.items ≡ l.number;
  each : (k : ℕ) (d : Made) → k < l.number → IsMadeOf l.trip l.loops k (get_or l.made.items k d);
}
