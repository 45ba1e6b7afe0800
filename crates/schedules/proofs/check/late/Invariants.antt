use Rattle.std.proofs.Common.{ℕ, ◌/◌, ◌<◌, get_or}
use Rattle.schedules.proofs.check.late.Given as goal

abbrev pub invariant-loop-op : goal.invariant-loop-op
invariant-loop-op l = (k : ℕ) (d : ℕ × ℕ) → k < l.op → (get_or l.places k d).0 / l.ii < 64
