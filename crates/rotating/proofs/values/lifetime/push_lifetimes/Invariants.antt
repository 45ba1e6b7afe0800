use Rattle.std.proofs.Common.{◌≡◌, ◌≤◌, ◌++◌, drop, length, map}
use Rattle.std.specs.Prelude.{vec_len, vec_capacity}
use Rattle.overlap.specs.Lifetimes.{values_from, lifetime_of}
use Rattle.rotating.proofs.values.lifetime.push_lifetimes.Given as goal

abbrev pub invariant-loop-value : goal.invariant-loop-value
invariant-loop-value l = (vec_len l.list ≤ l.value)
    × (length l.schedule.problem.loop.statements ≤ vec_capacity l.list)
    × (l.list.items ++ map (lifetime_of l.schedule) (values_from l.value (drop l.value l.schedule.problem.loop.statements)) ≡ map (lifetime_of l.schedule) (values_from 0 l.schedule.problem.loop.statements))
