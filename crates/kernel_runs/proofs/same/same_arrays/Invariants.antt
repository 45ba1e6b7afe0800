use Rattle.std.proofs.Common.{◌≡◌, ℕ, ◌<◌, [], get_or}
use Rattle.kernel_runs.proofs.same.same_arrays.Given as goal

abbrev pub invariant-loop-array : goal.invariant-loop-array
invariant-loop-array l = (k : ℕ) → k < l.array → get_or l.one.arrays k [] ≡ get_or l.other.arrays k []
