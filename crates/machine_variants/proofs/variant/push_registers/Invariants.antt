use Rattle.std.proofs.Common.{◌≡◌, ◌++◌, filter, map}
use Rattle.machine_variants.specs.declared.variant.Variant.TheVariants.{Registers}
use Rattle.machine_variants.specs.Variants.{is_other_number, numbers_to}
use Rattle.machine_variants.proofs.variant.push_registers.Given as goal

abbrev pub invariant-loop-above : goal.invariant-loop-above
invariant-loop-above l = l.list.items ≡ l.initial.list.items ++ map Registers (filter (is_other_number l.registers) (numbers_to l.above))
