use Rattle.std.proofs.Common.{◌≡◌, ℕ, ◌<◌, ◌≤◌, length}
use Rattle.std.specs.Prelude.{slice_index}
use Rattle.capi.proofs.fill_numbers.Given as goal

abbrev pub invariant-loop-value : goal.invariant-loop-value
invariant-loop-value l = record {
  same_length : length l.numbers ≡ length l.initial.numbers;
  each : (k : ℕ) → k < l.value → slice_index l.numbers k ≡ slice_index l.solution.numbers k;
  after : (k : ℕ) → l.value ≤ k → k < length l.initial.numbers → slice_index l.numbers k ≡ slice_index l.initial.numbers k;
}
