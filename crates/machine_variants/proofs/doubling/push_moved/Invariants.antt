use Rattle.std.proofs.Common.{◌≡◌, ◌++◌, filter, map, take}
use Rattle.machine_variants.specs.Variants.{moved, takes}
use Rattle.machine_variants.proofs.doubling.push_moved.Given as goal

abbrev pub invariant-loop-alternative : goal.invariant-loop-alternative
invariant-loop-alternative l = l.list.items ≡ l.initial.list.items ++ map (moved l.unit l.new) (filter (takes l.unit) (take l.alternative-index l.alternatives))
