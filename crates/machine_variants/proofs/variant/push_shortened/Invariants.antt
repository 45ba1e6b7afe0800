use Rattle.std.proofs.Common.{◌≡◌, ◌++◌, filter, map, take}
use Rattle.std.specs.Prelude.{nat_lt}
use Rattle.machine_data.specs.Machines.{table_of}
use Rattle.graph.specs.Dependences.{latency_in}
use Rattle.machine_variants.specs.declared.variant.Variant.TheVariants.{Shortened}
use Rattle.machine_variants.proofs.variant.push_shortened.Given as goal

abbrev pub invariant-loop-opcode : goal.invariant-loop-opcode
invariant-loop-opcode l =
    l.list.items ≡ l.initial.list.items ++ map Shortened (filter (λ opcode. nat_lt 1 (latency_in (table_of l.machine opcode))) (take l.opcode-index l.opcode-items))
