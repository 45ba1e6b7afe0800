use Rattle.std.proofs.Common.{◌≡◌, ◌≤◌, ◌++◌, drop, take, map}
use Rattle.overlap.specs.Lifetimes.{values_from, lifetime_of}
use Rattle.rotating.proofs.values.lifetime.fill_lifetimes.Given as goal

abbrev pub invariant-loop-op : goal.invariant-loop-op
invariant-loop-op l = (l.count ≤ l.op)
    × (take l.count l.lives ++ map (lifetime_of l.schedule) (values_from l.op (drop l.op l.schedule.problem.loop.statements)) ≡ map (lifetime_of l.schedule) (values_from 0 l.schedule.problem.loop.statements))
