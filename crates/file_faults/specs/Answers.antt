-- What is answered for the texts of a machine and of loops: the refusal that comes first, and else what is right.
use Rattle.std.specs.Prelude.{◌≡◌, ℕ, List, Option, Some, None, Result, Ok, Err}
use Rattle.reader_faults.specs.declared.machine.MachineFault.{MachineFault}
use Rattle.machine_data.specs.declared.opcode.Opcode.{Opcode}
use Rattle.machine_data.specs.Machines.{MachineData}
use Rattle.reader_faults.specs.declared.loops.LoopFault.{LoopFault}
use Rattle.loop_data.specs.Loops.{LoopData}
use Rattle.graph.specs.Units.{first_lacking}
use Rattle.file_faults.specs.declared.fault.FileFault.{FileFault}
use Rattle.file_faults.specs.declared.fault.FileFault.TheVariants.{Machine, Loops, NoTable, Memory}

-- unless memory ran out: the loop and the opcode that are lacking are answered, and else what is right
abbrev pub AnswersOn : {A : Type 0} → (A → Type 0) → Option (List ℕ × Opcode) → Result A FileFault → Type 0
AnswersOn IsRight lacking (Err Memory) = Unit {0}
AnswersOn IsRight (Some lacking) answer = answer ≡ Err (NoTable lacking.0 lacking.1)
AnswersOn IsRight None (Ok value) = IsRight value
AnswersOn IsRight None (Err fault) = ⊥

-- the fault of the loops' text before that. What is lacking depends on the loops
abbrev pub AnswersLoops : {A : Type 0} → (List LoopData → A → Type 0) → (List LoopData → Option (List ℕ × Opcode)) → Result (List LoopData) LoopFault → Result A FileFault → Type 0
AnswersLoops IsRight lacking loops (Err Memory) = Unit {0}
AnswersLoops IsRight lacking (Err fault) answer = answer ≡ Err (Loops fault)
AnswersLoops IsRight lacking (Ok loops) answer = AnswersOn (IsRight loops) (lacking loops) answer

-- .. where no machine is read: no table is lacking
abbrev pub AnswersAlone : {A : Type 0} → (List LoopData → A → Type 0) → Result (List LoopData) LoopFault → Result A FileFault → Type 0
AnswersAlone IsRight loops answer = AnswersLoops IsRight (λ ls. None) loops answer

-- .. on a machine: what it has no table for
abbrev pub AnswersIn : {A : Type 0} → (List LoopData → A → Type 0) → MachineData → Result (List LoopData) LoopFault → Result A FileFault → Type 0
AnswersIn IsRight machine loops answer = AnswersLoops IsRight (first_lacking machine) loops answer

-- and the fault of the machine's text before both
abbrev pub AnswersFile : {A : Type 0} → (MachineData → List LoopData → A → Type 0) → Result MachineData MachineFault → Result (List LoopData) LoopFault → Result A FileFault → Type 0
AnswersFile IsRight machine loops (Err Memory) = Unit {0}
AnswersFile IsRight (Err fault) loops answer = answer ≡ Err (Machine fault)
AnswersFile IsRight (Ok machine) loops answer = AnswersIn (IsRight machine) machine loops answer
