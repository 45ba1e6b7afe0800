use Rattle.std.proofs.Common.{◌≡◌, length, map, take}
use Rattle.std.specs.Prelude.{option_map}
use Rattle.machine_data.specs.Machines.{table_of}
use Rattle.machine_variants.specs.Variants.{doubled_table}
use Rattle.machine_variants.proofs.doubling.doubled_tables.Given as goal

abbrev pub invariant-loop-opcode : goal.invariant-loop-opcode
invariant-loop-opcode l = l.tables.items ≡ map (λ opcode. option_map (doubled_table l.unit (length l.machine.units)) (table_of l.machine opcode)) (take l.opcode-index l.opcode-items)
