-- The numbers by which a run of the program exits, and the lines that tell of a fault.
use Rattle.std.specs.Prelude.{ℕ, Bool, true, false, codes, string_bytes, List, [], ◌++◌}
use Rattle.reader_faults.specs.LoopFaults.{loop_fault_text}
use Rattle.reader_faults.specs.declared.loops.LoopFault.{LoopFault}
use Rattle.reader_faults.specs.declared.loops.LoopFaultKind.{LoopFaultKind}
use Rattle.reader_faults.specs.declared.loops.LoopFaultKind.TheVariants as kind
use Rattle.reader_faults.specs.MachineFaults.{machine_fault_text}
use Rattle.reader_faults.specs.declared.machine.MachineFault.{MachineFault}
use Rattle.reader_faults.specs.declared.machine.MachineFault.TheVariants as fault
use Rattle.machine_data.specs.Opcodes.{word_of}
use Rattle.file_faults.specs.declared.fault.FileFault.{FileFault}
use Rattle.file_faults.specs.declared.fault.FileFault.TheVariants as file
use Rattle.problem_faults.specs.ProblemTexts.{fault_text as problems_fault_text}
use Rattle.problem_faults.specs.declared.refused_problems.TextFault.{TextFault}
use Rattle.problem_faults.specs.declared.refused_problems.Wrong.{Wrong as ProblemsWrong}
use Rattle.problem_faults.specs.declared.refused_problems.Wrong.TheVariants as problems_wrong
use Rattle.problem_faults.specs.SolutionTexts.{fault_text as solutions_fault_text}
use Rattle.problem_faults.specs.declared.refused_solutions.SolutionFault.{SolutionFault}
use Rattle.problem_faults.specs.declared.refused_solutions.Wrong.{Wrong as SolutionsWrong}
use Rattle.problem_faults.specs.declared.refused_solutions.Wrong.TheVariants as solutions_wrong
use Rattle.problem_faults.specs.declared.fault.ProblemsFault.{ProblemsFault}
use Rattle.problem_faults.specs.declared.fault.ProblemsFault.TheVariants as problems
use Rattle.exit_status.specs.declared.status.Status.{Status}
use Rattle.exit_status.specs.declared.status.Status.TheVariants.{Done, Unmet, MachineFaulty, LoopsFaulty, MachineUnread, LoopsUnread, ProblemsUnread, SolutionsUnread}
use Rattle.exit_status.specs.declared.status.Status.TheVariants.{Machine, Loops, NoTable, NoLoop, Problems, Solutions, Unwritten}
use Rattle.exit_status.specs.declared.status.Status.TheVariants.{OutOfMemory}

-- a refused machine text: 7 where memory ran out
abbrev pub machine_number : MachineFault → ℕ
machine_number fault.Memory = 7
machine_number _ = 4

-- a refused loop text: 7 where memory ran out
abbrev pub loops_number : LoopFaultKind → ℕ
loops_number kind.Memory = 7
loops_number _ = 5

-- a refused text of problems: 7 where memory ran out
abbrev pub problems_number : ProblemsWrong → ℕ
problems_number problems_wrong.Memory = 7
problems_number _ = 4

-- a refused text of solutions: 7 where memory ran out
abbrev pub solutions_number : SolutionsWrong → ℕ
solutions_number solutions_wrong.Memory = 7
solutions_number _ = 5

-- 0 done, 1 a loop or a problem is not met, 3 a file can't be read, 4 machine or problems refused, or faults of the machine told, 5 loops or
-- solutions refused, or faults of the loops told, 6 output can't be written, 7 out of memory
abbrev pub status_number : Status → ℕ
status_number Done = 0
status_number Unmet = 1
status_number MachineFaulty = 4
status_number LoopsFaulty = 5
status_number MachineUnread = 3
status_number LoopsUnread = 3
status_number ProblemsUnread = 3
status_number SolutionsUnread = 3
status_number (Machine f) = machine_number f
status_number (Loops f) = loops_number f.kind
status_number (NoTable name opcode) = 5
status_number (NoLoop name) = 5
status_number (Problems f) = problems_number f.what
status_number (Solutions f) = solutions_number f.what
status_number Unwritten = 6
status_number OutOfMemory = 7

-- the output was written whole
abbrev pub IsComplete : Status → Type 0
IsComplete Done = Unit {0}
IsComplete Unmet = Unit {0}
IsComplete MachineFaulty = Unit {0}
IsComplete LoopsFaulty = Unit {0}
IsComplete _ = ⊥

-- the output was written, whole or, where it failed, a beginning of it
abbrev pub HasWritten : Status → Type 0
HasWritten Done = Unit {0}
HasWritten Unmet = Unit {0}
HasWritten MachineFaulty = Unit {0}
HasWritten LoopsFaulty = Unit {0}
HasWritten Unwritten = Unit {0}
HasWritten _ = ⊥

-- the texts were read and memory sufficed: the status says what they bring about
abbrev pub HasAnswered : Status → Type 0
HasAnswered MachineUnread = ⊥
HasAnswered LoopsUnread = ⊥
HasAnswered ProblemsUnread = ⊥
HasAnswered SolutionsUnread = ⊥
HasAnswered OutOfMemory = ⊥
HasAnswered _ = Unit {0}

-- the status of a refused machine text
abbrev pub refusal_of_machine : MachineFault → Status
refusal_of_machine fault.Memory = OutOfMemory
refusal_of_machine f = Machine f

abbrev pub loops_status : LoopFaultKind → LoopFault → Status
loops_status kind.Memory f = OutOfMemory
loops_status _ f = Loops f

-- the status of a refused loop text
abbrev pub refusal_of_loops : LoopFault → Status
refusal_of_loops f = loops_status f.kind f

-- the status of a machine text and a loop text that have no listing
abbrev pub refusal_of_file : FileFault → Status
refusal_of_file (file.Machine f) = refusal_of_machine f
refusal_of_file (file.Loops f) = refusal_of_loops f
refusal_of_file (file.NoTable name opcode) = NoTable name opcode
refusal_of_file file.Memory = OutOfMemory

abbrev pub problems_status : ProblemsWrong → TextFault → Status
problems_status problems_wrong.Memory f = OutOfMemory
problems_status _ f = Problems f

-- the status of a refused text of problems
abbrev pub refusal_of_problem_text : TextFault → Status
refusal_of_problem_text f = problems_status f.what f

abbrev pub solutions_status : SolutionsWrong → SolutionFault → Status
solutions_status solutions_wrong.Memory f = OutOfMemory
solutions_status _ f = Solutions f

-- the status of a refused text of solutions
abbrev pub refusal_of_solution_text : SolutionFault → Status
refusal_of_solution_text f = solutions_status f.what f

-- the status of texts of problems and solutions that have no answer
abbrev pub refusal_of_problems : ProblemsFault → Status
refusal_of_problems (problems.Problems f) = refusal_of_problem_text f
refusal_of_problems (problems.Solutions f) = refusal_of_solution_text f
refusal_of_problems problems.Memory = OutOfMemory

-- a refused machine text
abbrev pub machine_line : MachineFault → List ℕ
machine_line fault.Memory = codes "out of memory"
machine_line f = codes "machine: " ++ machine_fault_text f

-- a refused loop text
abbrev pub loops_line : LoopFaultKind → LoopFault → List ℕ
loops_line kind.Memory f = codes "out of memory"
loops_line _ f = codes "loops: " ++ loop_fault_text f

-- a refused text of problems
abbrev pub problems_line : ProblemsWrong → TextFault → List ℕ
problems_line problems_wrong.Memory f = codes "out of memory"
problems_line _ f = codes "problems: " ++ problems_fault_text f

-- a refused text of solutions
abbrev pub solutions_line : SolutionsWrong → SolutionFault → List ℕ
solutions_line solutions_wrong.Memory f = codes "out of memory"
solutions_line _ f = codes "solutions: " ++ solutions_fault_text f

-- a status has a line on the standard error, but where the output was written whole
abbrev pub has_line : Status → Bool
has_line Done = false
has_line Unmet = false
has_line MachineFaulty = false
has_line LoopsFaulty = false
has_line _ = true

-- the line for the standard error
abbrev pub line_of : Status → List ℕ
line_of Done = []
line_of Unmet = []
line_of MachineFaulty = []
line_of LoopsFaulty = []
line_of MachineUnread = codes "machine: cannot read"
line_of LoopsUnread = codes "loops: cannot read"
line_of ProblemsUnread = codes "problems: cannot read"
line_of SolutionsUnread = codes "solutions: cannot read"
line_of (Machine f) = machine_line f
line_of (Loops f) = loops_line f.kind f
line_of (NoTable name opcode) = codes "loops: loop " ++ (name ++ (codes ": no table for " ++ word_of opcode))
line_of (NoLoop name) = codes "loops: no loop " ++ string_bytes name
line_of (Problems f) = problems_line f.what f
line_of (Solutions f) = solutions_line f.what f
line_of Unwritten = codes "cannot write"
line_of OutOfMemory = codes "out of memory"
