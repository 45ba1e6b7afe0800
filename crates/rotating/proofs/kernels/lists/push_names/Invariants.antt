use Rattle.std.proofs.Common.{◌≡◌, ◌≤◌, length, map, take}
use Rattle.std.specs.Prelude.{vec_len, vec_capacity}
use Rattle.loop_data.specs.declared.language.lists.Array.{Array}
use Rattle.rotating.proofs.kernels.lists.push_names.Given as goal

abbrev pub invariant-loop-array : goal.invariant-loop-array
invariant-loop-array l = (vec_len l.list ≡ l.array-index) × (length l.innermost.arrays ≤ vec_capacity l.list)
    × (l.list.items ≡ map (λ (a : Array). a.name) (take l.array-index l.innermost.arrays))
