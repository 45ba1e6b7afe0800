use Rattle.std.proofs.Common.{◌≡◌, map, take}
use Rattle.machine_data.specs.Machines.{table_of}
use Rattle.machine_variants.specs.Variants.{is_opcode, shortened_where}
use Rattle.machine_variants.proofs.shortening.shortened_tables.Given as goal

abbrev pub invariant-loop-other : goal.invariant-loop-other
invariant-loop-other l = l.tables.items ≡ map (λ other. shortened_where (is_opcode other l.opcode) (table_of l.machine other)) (take l.other-index l.other-items)
