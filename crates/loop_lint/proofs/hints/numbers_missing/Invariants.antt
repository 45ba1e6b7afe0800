use Rattle.std.proofs.Common.{◌≡◌, ℕ, Some, filter, not}
use Rattle.std.specs.List.{range_with_len}
use Rattle.loop_lint.specs.inner.Tables.{flag_of}
use Rattle.loop_lint.proofs.hints.numbers_missing.Given as goal

-- those of the numbers so far
abbrev pub invariant-loop-before : goal.invariant-loop-before
invariant-loop-before l = l.numbers.items ≡ filter (λ (n : ℕ). not (flag_of l.known.inits (Some n))) (range_with_len 1 l.before)
