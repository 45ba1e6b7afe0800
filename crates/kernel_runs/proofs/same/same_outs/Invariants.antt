use Rattle.std.proofs.Common.{◌≡◌, ℕ, ◌<◌, pos, get_or}
use Rattle.kernel_runs.proofs.same.same_outs.Given as goal

abbrev pub invariant-loop-out : goal.invariant-loop-out
invariant-loop-out l = (k : ℕ) → k < l.out → get_or l.one.outs k (pos 0) ≡ get_or l.other.outs k (pos 0)
