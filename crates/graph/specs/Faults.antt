-- How the faults of a loop on a machine are told.
use Rattle.std.specs.Prelude.{ℕ, codes, List, ◌++◌}
use Rattle.machine_data.specs.Opcodes.{word_of}
use Rattle.graph.specs.declared.fault.GraphFault.{GraphFault}
use Rattle.graph.specs.declared.fault.GraphFault.TheVariants.{NoTable, Memory}

abbrev pub graph_fault_text : GraphFault → List ℕ
graph_fault_text (NoTable opcode) = codes "no table for " ++ word_of opcode
graph_fault_text Memory = codes "out of memory"
