use Rattle.std.proofs.Common.{◌≡◌, ℕ, ◌<◌, get_or}
use Rattle.kernel_runs.specs.declared.flight.Pending.{Pending}
use Rattle.kernel_runs.proofs.same.same_writes.Given as goal

abbrev pub invariant-loop-place : goal.invariant-loop-place
invariant-loop-place l = (k : ℕ) (d : Pending) → k < l.place → get_or l.one k d ≡ get_or l.other k d
