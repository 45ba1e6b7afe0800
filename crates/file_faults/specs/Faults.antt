-- What the faults of two texts are for a file, and what is told of them.
use Rattle.std.specs.Prelude.{ℕ, codes, List, ◌++◌}
use Rattle.reader_faults.specs.declared.machine.MachineFault.{MachineFault}
use Rattle.reader_faults.specs.declared.machine.MachineFault.TheVariants as machine_fault
use Rattle.reader_faults.specs.MachineFaults.{machine_fault_text}
use Rattle.machine_data.specs.Opcodes.{word_of}
use Rattle.reader_faults.specs.declared.loops.LoopFault.{LoopFault}
use Rattle.reader_faults.specs.declared.loops.LoopFaultKind.{LoopFaultKind}
use Rattle.reader_faults.specs.declared.loops.LoopFaultKind.TheVariants as kind
use Rattle.reader_faults.specs.LoopFaults.{loop_fault_text}
use Rattle.lower_bounds.specs.declared.fault.TextFault.{TextFault}
use Rattle.lower_bounds.specs.declared.fault.TextFault.TheVariants as text
use Rattle.file_faults.specs.declared.fault.FileFault.{FileFault}
use Rattle.file_faults.specs.declared.fault.FileFault.TheVariants.{Machine, Loops, NoTable, Memory}

-- what a fault of the reader of machines is for a file, and one of the reader of loops
abbrev pub of_machine : MachineFault → FileFault
of_machine machine_fault.Memory = Memory
of_machine fault = Machine fault

abbrev pub of_kind : LoopFaultKind → LoopFault → FileFault
of_kind kind.Memory fault = Memory
of_kind kind fault = Loops fault

abbrev pub of_loops : LoopFault → FileFault
of_loops fault = of_kind fault.kind fault

-- and one of loops that have no text on a machine
abbrev pub of_text : TextFault → FileFault
of_text (text.NoTable name opcode) = NoTable name opcode
of_text text.Memory = Memory

-- what is told of a fault
abbrev pub told_of : FileFault → List ℕ
told_of (Machine fault) = codes "machine: " ++ machine_fault_text fault
told_of (Loops fault) = codes "loops: " ++ loop_fault_text fault
told_of (NoTable name opcode) = codes "loops: loop " ++ (name ++ (codes ": no table for " ++ word_of opcode))
told_of Memory = codes "out of memory"
