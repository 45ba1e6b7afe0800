use Rattle.std.proofs.Common.{ℕ, ◌<◌}
use Rattle.schedules.specs.Breaches.{IsInRange}
use Rattle.schedules.proofs.check.out_of_range.Given as goal

abbrev pub invariant-loop-op : goal.invariant-loop-op
invariant-loop-op l = (k : ℕ) → k < l.op → IsInRange l.operations l.places k
