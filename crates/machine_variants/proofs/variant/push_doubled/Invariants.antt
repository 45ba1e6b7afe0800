use Rattle.std.proofs.Common.{◌≡◌, ◌++◌, map}
use Rattle.std.specs.List.{range_with_len}
use Rattle.machine_variants.specs.declared.variant.Variant.TheVariants.{Doubled}
use Rattle.machine_variants.proofs.variant.push_doubled.Given as goal

abbrev pub invariant-loop-unit : goal.invariant-loop-unit
invariant-loop-unit l = l.list.items ≡ l.initial.list.items ++ map Doubled (range_with_len 0 l.unit)
