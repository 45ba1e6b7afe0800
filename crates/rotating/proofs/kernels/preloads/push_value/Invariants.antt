use Rattle.std.proofs.Common.{◌≡◌, ◌+◌, ◌-◌, ◌++◌}
use Rattle.std.specs.Prelude.{vec_len, vec_capacity}
use Rattle.overlap.specs.Emission.{preloads_from}
use Rattle.rotating.proofs.kernels.preloads.push_value.Given as goal

abbrev pub invariant-loop-k : goal.invariant-loop-k
invariant-loop-k l = (vec_len l.list ≡ vec_len l.initial.list + l.k) × (vec_capacity l.list ≡ vec_capacity l.initial.list)
    × (l.list.items ++ preloads_from l.schedule l.allotment l.value (1 + l.k) (l.count - l.k) ≡ l.initial.list.items ++ preloads_from l.schedule l.allotment l.value 1 l.count)
