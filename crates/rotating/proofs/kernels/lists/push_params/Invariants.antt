use Rattle.std.proofs.Common.{◌≡◌, ◌≤◌, length, take}
use Rattle.std.specs.Prelude.{vec_len, vec_capacity}
use Rattle.rotating.proofs.kernels.lists.push_params.Given as goal

abbrev pub invariant-loop-param : goal.invariant-loop-param
invariant-loop-param l = (vec_len l.list ≡ l.param-index) × (length l.params ≤ vec_capacity l.list) × (l.list.items ≡ take l.param-index l.params)
