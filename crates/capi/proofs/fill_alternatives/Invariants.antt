use Rattle.std.proofs.Common.{◌≡◌, ℕ, ◌<◌, ◌≤◌, length}
use Rattle.std.specs.Prelude.{slice_index}
use Rattle.capi.proofs.fill_alternatives.Given as goal

abbrev pub invariant-loop-op : goal.invariant-loop-op
invariant-loop-op l = record {
  same_length : length l.alternatives ≡ length l.initial.alternatives;
  each : (k : ℕ) → k < l.op → slice_index l.alternatives k ≡ slice_index l.solution.choices k;
  after : (k : ℕ) → l.op ≤ k → k < length l.initial.alternatives → slice_index l.alternatives k ≡ slice_index l.initial.alternatives k;
}
