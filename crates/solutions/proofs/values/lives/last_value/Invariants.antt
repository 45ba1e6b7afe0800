use Rattle.std.proofs.Common.{◌≡◌, max, drop, map}
use Rattle.registers.specs.Values.{greatest_of, landing_of}
use Rattle.solutions.proofs.values.lives.last_value.Given as goal

abbrev pub invariant-loop-value : goal.invariant-loop-value
invariant-loop-value l = max l.greatest (greatest_of (map (landing_of l.times) (drop l.value-index l.values))) ≡ greatest_of (map (landing_of l.times) l.values)
