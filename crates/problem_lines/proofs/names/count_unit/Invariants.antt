use Rattle.std.proofs.Common.{◌≡◌, ◌<◌, ℕ, false, get_or}
use Rattle.problem_lines.specs.Names.{is_at}
use Rattle.problem_lines.proofs.names.count_unit.Given as goal

-- none of the bytes so far is an `@`
abbrev pub invariant-loop-i : goal.invariant-loop-i
invariant-loop-i l = (k : ℕ) → k < l.i → is_at (get_or l.word k 0) ≡ false
