use Rattle.std.proofs.Common.{◌≡◌, ◌≤◌, ◌++◌, length, drop}
use Rattle.std.specs.Prelude.{vec_len, vec_capacity}
use Rattle.overlap.specs.Emission.{operations_from}
use Rattle.rotating.proofs.kernels.operations.push_operations.Given as goal

abbrev pub invariant-loop-op : goal.invariant-loop-op
invariant-loop-op l = (vec_len l.list ≡ l.op) × (length l.schedule.problem.loop.statements ≤ vec_capacity l.list)
    × (l.list.items ++ operations_from l.schedule l.allotment l.op (drop l.op l.schedule.problem.loop.statements) ≡ operations_from l.schedule l.allotment 0 l.schedule.problem.loop.statements)
