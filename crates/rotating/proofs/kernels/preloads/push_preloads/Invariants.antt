use Rattle.std.proofs.Common.{◌≡◌, ◌+◌, ◌≤◌, ◌++◌, drop}
use Rattle.std.specs.Prelude.{vec_len, vec_capacity, flat_map}
use Rattle.overlap.specs.Emission.{preloads_from, preloads_of}
use Rattle.overlap.specs.Lifetimes.{carried, values_from}
use Rattle.rotating.specs.inner.Naming.{preload_count}
use Rattle.rotating.proofs.kernels.preloads.push_preloads.Given as goal

abbrev pub invariant-loop-value : goal.invariant-loop-value
invariant-loop-value l =
    (vec_len l.list + preload_count l.schedule.problem.loop (values_from l.value (drop l.value l.schedule.problem.loop.statements)) ≤ vec_capacity l.list)
    × (l.list.items ++ flat_map (λ v. preloads_from l.schedule l.allotment v 1 (carried l.schedule.problem.loop v)) (values_from l.value (drop l.value l.schedule.problem.loop.statements)) ≡ preloads_of l.schedule l.allotment)
