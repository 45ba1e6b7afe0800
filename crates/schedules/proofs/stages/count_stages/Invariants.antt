use Rattle.std.proofs.Common.{◌≡◌, ◌/◌, map, take}
use Rattle.unit_bound.specs.Units.{greatest_of}
use Rattle.schedules.proofs.stages.count_stages.Given as goal

abbrev pub invariant-loop-time : goal.invariant-loop-time
invariant-loop-time l = l.greatest ≡ greatest_of (map (λ time. time / l.ii) (take l.time-index l.times))
