use Rattle.std.proofs.Common.{◌≡◌, map, take}
use Rattle.capi.specs.Given.{value_of}
use Rattle.capi.proofs.drafting.values_of.Given as goal

abbrev pub invariant-loop-value : goal.invariant-loop-value
invariant-loop-value l = l.made.items ≡ map value_of (take l.value-index l.values)
