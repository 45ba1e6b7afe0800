use Rattle.std.proofs.Common.{◌≡◌, take, drop}
use Rattle.std.specs.List.{find}
use Rattle.std.specs.Option.{is_none}
use Rattle.machine_data.specs.Machines.{table_of}
use Rattle.graph.specs.Units.{first_without_table, opcodes_of}
use Rattle.graph.specs.Dependences.{latencies_of}
use Rattle.graph.specs.Subscripts.{AreLatencies}
use Rattle.graph.proofs.dependence.dependences.latencies.Given as goal

abbrev pub invariant-loop-statement : goal.invariant-loop-statement
invariant-loop-statement l =
    (find (λ opcode. is_none (table_of l.machine opcode)) (drop l.statement-index (opcodes_of l.innermost)) ≡ first_without_table l.machine l.innermost)
    × (l.cycles.items ≡ take l.statement-index (latencies_of l.machine l.innermost)) × AreLatencies l.cycles.items
