use Rattle.std.proofs.Common.{◌≡◌, ℕ, ◌<◌, ◌≤◌, length}
use Rattle.std.specs.Prelude.{slice_index}
use Rattle.capi.proofs.fill_times.Given as goal

abbrev pub invariant-loop-op : goal.invariant-loop-op
invariant-loop-op l = record {
  same_length : length l.times ≡ length l.initial.times;
  each : (k : ℕ) → k < l.op → slice_index l.times k ≡ slice_index l.solution.times k;
  after : (k : ℕ) → l.op ≤ k → k < length l.initial.times → slice_index l.times k ≡ slice_index l.initial.times k;
}
