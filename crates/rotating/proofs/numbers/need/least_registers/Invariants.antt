use Rattle.std.proofs.Common.{◌≡◌, ◌≤◌, ℕ, length, vec_len}
use Rattle.overlap.specs.Allotments.{NoneFor}
use Rattle.overlap.specs.Lifetimes.{lifetimes_of}
use Rattle.rotating.proofs.numbers.need.least_registers.Given as goal

abbrev pub invariant-loop-fewer : goal.invariant-loop-fewer
invariant-loop-fewer l = record {
  each : vec_len l.numbers ≡ length (lifetimes_of l.schedule);
  none : (number : ℕ) → 1 ≤ number → number ≤ l.fewer → NoneFor l.schedule number;
}
