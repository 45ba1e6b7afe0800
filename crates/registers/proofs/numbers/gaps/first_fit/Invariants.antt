use Rattle.std.proofs.Common.{◌<◌, ◌≤◌, ℕ}
use Rattle.registers.specs.inner.Gaps.{FitsAt, place_at}
use Rattle.registers.proofs.numbers.gaps.first_fit.Given as goal

abbrev pub invariant-loop-k : goal.invariant-loop-k
invariant-loop-k l = (j : ℕ) (t : ℕ) → j < l.k → l.from ≤ t → ¬ FitsAt l.gaps j (place_at l.arc.phase t) l.arc.length
