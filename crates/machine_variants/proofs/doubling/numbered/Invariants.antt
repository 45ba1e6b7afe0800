use Rattle.std.proofs.Common.{◌≡◌}
use Rattle.machine_variants.specs.Variants.{numbered}
use Rattle.machine_variants.proofs.doubling.numbered.Given as goal

abbrev pub invariant-loop-number : goal.invariant-loop-number
invariant-loop-number l = l.names.items ≡ numbered l.number
