use Rattle.std.proofs.Common.{◌≡◌, take}
use Rattle.solutions.proofs.values.lives.fill_times.Given as goal

abbrev pub invariant-loop-op : goal.invariant-loop-op
invariant-loop-op l = take l.op l.times ≡ take l.op l.schedule.times
