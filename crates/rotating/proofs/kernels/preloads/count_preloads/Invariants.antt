use Rattle.std.proofs.Common.{◌≡◌, ◌+◌, ◌*◌, ◌≤◌, drop}
use Rattle.overlap.specs.Lifetimes.{values_from, values_of}
use Rattle.rotating.specs.inner.Naming.{preload_count}
use Rattle.rotating.proofs.kernels.preloads.count_preloads.Given as goal

abbrev pub invariant-loop-value : goal.invariant-loop-value
invariant-loop-value l = (l.count ≤ 16 * l.value)
    × (l.count + preload_count l.innermost (values_from l.value (drop l.value l.innermost.statements)) ≡ preload_count l.innermost (values_of l.innermost))
