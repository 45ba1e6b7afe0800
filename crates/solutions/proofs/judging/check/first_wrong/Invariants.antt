use Rattle.std.proofs.Common.{ℕ, ◌<◌}
use Rattle.solutions.specs.Solutions.{IsRightNumber}
use Rattle.solutions.proofs.judging.check.first_wrong.Given as goal

abbrev pub invariant-loop-value : goal.invariant-loop-value
invariant-loop-value l = (value : ℕ) → value < l.value → IsRightNumber l.draft l.numbers value
