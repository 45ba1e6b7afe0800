use Rattle.std.proofs.Common.{◌≡◌, ◌<◌, ℕ, max, length, drop}
use Rattle.std.specs.Prelude.{slice_index}
use Rattle.rotating.specs.inner.Uses.{greatest_in}
use Rattle.rotating.proofs.values.uses.raise.Given as goal

abbrev pub invariant-loop-k : goal.invariant-loop-k
invariant-loop-k l = (length l.table ≡ 256) × ((v : ℕ) → v < 256
    → max (slice_index l.table v) (greatest_in v l.base l.step (drop l.k l.operands)) ≡ max (slice_index l.initial.table v) (greatest_in v l.base l.step l.operands))
