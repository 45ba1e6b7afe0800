-- What a call answered that needs a table for each opcode of loops.
use Rattle.std.specs.Prelude.{◌≡◌, ℕ, List, codes, ◌++◌, Option, Some, None, Result, Ok, Err}
use Rattle.machine_data.specs.declared.opcode.Opcode.{Opcode}
use Rattle.machine_data.specs.Machines.{MachineData}
use Rattle.machine_data.specs.Opcodes.{word_of}
use Rattle.loop_data.specs.Loops.{LoopData}
use Rattle.graph.specs.Units.{first_without_table, lacking_or}
use Rattle.graph.specs.declared.fault.GraphFault.{GraphFault}
use Rattle.graph.specs.declared.fault.GraphFault.TheVariants as graph_fault
use Rattle.lower_bounds.specs.declared.fault.TextFault.{TextFault}
use Rattle.lower_bounds.specs.declared.fault.TextFault.TheVariants.{NoTable, Memory}

abbrev pub fault_text : TextFault → List ℕ
fault_text (NoTable name opcode) = codes "loop " ++ (name ++ (codes ": no table for " ++ word_of opcode))
fault_text Memory = codes "out of memory"

-- the fault of a loop of this name
abbrev pub fault_of : List ℕ → GraphFault → TextFault
fault_of name (graph_fault.NoTable opcode) = NoTable name opcode
fault_of name graph_fault.Memory = Memory

-- the first opcode that a loop lacks a table for, with the loop's name
abbrev pub lacking_in : MachineData → LoopData → Option (List ℕ × Opcode)
lacking_in machine loop = lacking_or loop.name (first_without_table machine loop) None

-- where a table is lacking, its loop and opcode are answered, and else a value with this property, unless memory ran out
abbrev pub TextAnswers : {A : Type 0} → Option (List ℕ × Opcode) → (A → Type 0) → Result A TextFault → Type 0
TextAnswers lacking IsRight (Err Memory) = Unit {0}
TextAnswers (Some lacking) IsRight result = result ≡ Err (NoTable lacking.0 lacking.1)
TextAnswers None IsRight (Ok value) = IsRight value
TextAnswers None IsRight (Err (NoTable name opcode)) = ⊥
