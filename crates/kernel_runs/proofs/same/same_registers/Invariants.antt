use Rattle.std.proofs.Common.{◌≡◌, ℕ, ◌<◌, pos, get_or}
use Rattle.kernel_runs.proofs.same.same_registers.Given as goal

abbrev pub invariant-loop-register : goal.invariant-loop-register
invariant-loop-register l = (k : ℕ) → k < l.register → get_or l.one k (pos 0) ≡ get_or l.other k (pos 0)
