use Rattle.std.proofs.Common.{ℕ, ◌+◌, ◌≤◌, ◌<◌}
use Rattle.std.specs.Prelude.{Some}
use Rattle.loop_schedules.specs.Problems.{mii_of}
use Rattle.variants.specs.Intervals.{IsIntervalOf}
use Rattle.variants.specs.inner.Tries.{with_registers}
use Rattle.variants.proofs.search.least.least_number.Given as goal

abbrev pub invariant-loop-registers : goal.invariant-loop-registers
invariant-loop-registers l = (other : ℕ) → 1 ≤ other → other < l.registers → IsIntervalOf (with_registers other l.prepared) (Some (mii_of l.prepared + l.above)) → ⊥
