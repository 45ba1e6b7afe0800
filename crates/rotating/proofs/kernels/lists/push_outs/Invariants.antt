use Rattle.std.proofs.Common.{◌≡◌, ◌≤◌, length, map, take}
use Rattle.std.specs.Prelude.{vec_len, vec_capacity}
use Rattle.overlap.specs.Emission.{out_of}
use Rattle.rotating.proofs.kernels.lists.push_outs.Given as goal

abbrev pub invariant-loop-value : goal.invariant-loop-value
invariant-loop-value l = (vec_len l.list ≡ l.value-index) × (length l.schedule.problem.loop.outs ≤ vec_capacity l.list)
    × (l.list.items ≡ map (out_of l.schedule l.allotment) (take l.value-index l.schedule.problem.loop.outs))
