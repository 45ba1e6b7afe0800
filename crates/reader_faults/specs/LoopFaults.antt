-- How the faults of a text are told.
use Rattle.std.specs.Prelude.{◌≡◌, ℕ, codes, decimal, List, ◌++◌, Result, Ok, Err}
use Rattle.reader_faults.specs.declared.loops.LoopFault.{LoopFault}
use Rattle.reader_faults.specs.declared.loops.LoopFaultKind.{LoopFaultKind}
use Rattle.reader_faults.specs.declared.loops.LoopFaultKind.TheVariants as kind

-- what is told of a line
abbrev pub kind_text : LoopFaultKind → List ℕ
kind_text kind.Syntax = codes "syntax"
kind_text kind.Limit = codes "limit"
kind_text kind.RepeatedName = codes "repeated name"
kind_text kind.UnknownName = codes "unknown name"
kind_text kind.UseBeforeDefinition = codes "use before definition"
kind_text kind.MissingInit = codes "missing init"
kind_text kind.NoEnd = codes "no end"
kind_text kind.Memory = codes "out of memory"

-- a line's number and what is told of it; lack of memory is told of no line
abbrev pub told_at : LoopFaultKind → ℕ → List ℕ
told_at kind.Memory line = kind_text kind.Memory
told_at kind line = ((codes "line " ++ decimal line) ++ codes ": ") ++ kind_text kind

abbrev pub loop_fault_text : LoopFault → List ℕ
loop_fault_text fault = told_at fault.kind fault.line

-- the line that a fault names: none, which is 0, for lack of memory
abbrev pub line_at : LoopFaultKind → ℕ → ℕ
line_at kind.Memory line = 0
line_at kind line = line

-- a fault is the meaning, unless it is lack of memory, which is said of line 0
abbrev pub AnswersFault : {A : Type 0} → LoopFaultKind → LoopFault → Result A LoopFault → Type 0
AnswersFault kind.Memory fault meaning = fault.line ≡ 0
AnswersFault what fault meaning = Err fault ≡ meaning

-- the result is the meaning, unless memory ran out
abbrev pub LoopsAnswer : {A : Type 0} → Result A LoopFault → Result A LoopFault → Type 0
LoopsAnswer (Ok value) meaning = Ok value ≡ meaning
LoopsAnswer (Err fault) meaning = AnswersFault fault.kind fault meaning
