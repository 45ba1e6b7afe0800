use Rattle.std.proofs.Common.{◌≡◌, ◌<◌, ℕ, max, length, drop}
use Rattle.std.specs.Prelude.{slice_index}
use Rattle.rotating.specs.inner.Uses.{greatest_in}
use Rattle.rotating.proofs.values.uses.raise_both.Given as goal

abbrev pub invariant-loop-k : goal.invariant-loop-k
invariant-loop-k l = (length l.carried ≡ 256) × (length l.lasts ≡ 256)
    × ((v : ℕ) → v < 256 → max (slice_index l.carried v) (greatest_in v 0 1 (drop l.k l.operands)) ≡ max (slice_index l.initial.carried v) (greatest_in v 0 1 l.operands))
    × ((v : ℕ) → v < 256 → max (slice_index l.lasts v) (greatest_in v l.time l.ii (drop l.k l.operands)) ≡ max (slice_index l.initial.lasts v) (greatest_in v l.time l.ii l.operands))
