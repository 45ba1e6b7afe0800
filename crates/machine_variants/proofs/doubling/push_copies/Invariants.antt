use Rattle.std.proofs.Common.{◌≡◌, ◌++◌, take}
use Rattle.machine_variants.proofs.doubling.push_copies.Given as goal

abbrev pub invariant-loop-alternative : goal.invariant-loop-alternative
invariant-loop-alternative l = l.list.items ≡ l.initial.list.items ++ take l.alternative-index l.alternatives
