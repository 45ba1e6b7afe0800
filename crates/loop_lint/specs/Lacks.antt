-- The statements whose opcode a machine has no table for, among the faults of a loop text.
use Rattle.std.specs.Prelude.{◌≡◌, ◌↔◌, ℕ, ◌+◌, nat_le, nat_lt, Bool, true, false, if◌then◌else◌, List, [], ◌∷◌, ◌++◌, drop, length, map, Option, Some, None, is_none, is_some, Ok, take}
use Rattle.std.specs.List.{filter_map, list_all, position_or_len}
use Rattle.machine_data.specs.Machines.{MachineData, table_of}
use Rattle.machine_data.specs.declared.limits.TheConstants.{MAX_TEXT}
use Rattle.machine_data.specs.declared.opcode.Opcode.{Opcode}
use Rattle.machine_data.specs.declared.opcode.Opcode.TheVariants.{Store}
use Rattle.loop_data.specs.Loops.{LoopData}
use Rattle.loop_data.specs.declared.language.statement.Statement.{Statement}
use Rattle.loop_lines.specs.Forms.{Form, LoopLine, ArrayLine, ParamLine, InitLine, StatementLine, OutLine, EndLine, Malformed}
use Rattle.loop_reader.specs.Meaning.{loops_in}
use Rattle.loop_lint.specs.Lints.{AreFaults, BeginsAs, TextLine, Blank, Words, plain, text_lines}
use Rattle.loop_lines.specs.Columns.{Placed}
use Rattle.loop_lint.specs.Words.{spot_at}
use Rattle.loop_lint.specs.declared.fault.LintFault.{LintFault}
use Rattle.loop_lint.specs.declared.lacks.LoopLint.{LoopLint}
use Rattle.loop_lint.specs.declared.lacks.LoopLint.TheVariants as lint
use Rattle.loop_lint.specs.declared.lacks.NoTable.{NoTable}
use Rattle.loop_lint.specs.declared.spots.Spot.{Spot}

-- the number of the opcode's word, from 0, in `store ..` and in `NAME = OP ..`
abbrev pub opcode_word : Opcode → ℕ
opcode_word Store = 0
opcode_word opcode = 2

abbrev pub at_spot : ℕ → Spot → NoTable
at_spot line spot = record { line = line; column = spot.column; width = spot.width }

-- a line with these words and this form, where it is a statement whose opcode the machine has no table for
abbrev pub lack : MachineData → ℕ → List Placed → Form → List NoTable
lack machine line words (LoopLine name) = []
lack machine line words (ArrayLine name cells) = []
lack machine line words (ParamLine name value) = []
lack machine line words (InitLine name number value) = []
lack machine line words (StatementLine source) =
    if is_none (table_of machine source.opcode) then at_spot line (spot_at words (opcode_word source.opcode)) ∷ [] else []
lack machine line words (OutLine name) = []
lack machine line words EndLine = []
lack machine line words Malformed = []

-- whether the next line is inside a loop, by whether this line is: `loop` begins one, and `end` ends it
abbrev pub inside_after : Bool → Form → Bool
inside_after inside (LoopLine name) = true
inside_after inside (ArrayLine name cells) = inside
inside_after inside (ParamLine name value) = inside
inside_after inside (InitLine name number value) = inside
inside_after inside (StatementLine source) = inside
inside_after inside (OutLine name) = inside
inside_after inside EndLine = false
inside_after inside Malformed = inside

-- those of the lines from the line of this number on
abbrev pub lacks_from : MachineData → ℕ → Bool → List TextLine → List NoTable
lacks_from machine line inside [] = []
lacks_from machine line inside (Blank ∷ lines) = lacks_from machine (line + 1) inside lines
lacks_from machine line inside (Words words form ∷ lines) =
    (if inside then lack machine line words form else []) ++ lacks_from machine (line + 1) (inside_after inside form) lines

-- those of a text; of one that is too long nothing is told but that
unfoldable pub lacks_in : MachineData → List ℕ → List NoTable
lacks_in machine text = if nat_lt MAX_TEXT (length text) then [] else lacks_from machine 1 false (text_lines text)

-- .. where there is a machine
abbrev pub lacks_for : Option MachineData → List ℕ → List NoTable
lacks_for None text = []
lacks_for (Some machine) text = lacks_in machine text

-- how many of these are of lines before this one
abbrev pub count_before : ℕ → List NoTable → ℕ
count_before line lacks = position_or_len (λ (l : NoTable). nat_le line l.line) lacks

-- faults with these among them, in the order of their lines, and of a line after its faults
abbrev pub merged : List LintFault → List NoTable → List LoopLint
merged [] lacks = map lint.NoTable lacks
merged (fault ∷ faults) lacks =
    map lint.NoTable (take (count_before fault.line lacks) lacks) ++ lint.Fault fault ∷ merged faults (drop (count_before fault.line lacks) lacks)

-- a fault that is told
abbrev pub fault_in : LoopLint → Option LintFault
fault_in (lint.Fault fault) = Some fault
fault_in (lint.NoTable lack) = None

abbrev pub faults_among : List LoopLint → List LintFault
faults_among lints = filter_map fault_in lints

-- the place of what is told
abbrev pub line_of : LoopLint → ℕ
line_of (lint.Fault fault) = fault.line
line_of (lint.NoTable lack) = lack.line

abbrev pub column_of : LoopLint → ℕ
column_of (lint.Fault fault) = fault.column
column_of (lint.NoTable lack) = lack.column

abbrev pub width_of : LoopLint → ℕ
width_of (lint.Fault fault) = fault.width
width_of (lint.NoTable lack) = lack.width

-- what is told of a text on a machine, if there is one: the text's faults, and the statements without a table among them
pub record AreToldOn (machine : Option MachineData) (text : List ℕ) (lints : List LoopLint) : Type 0 where
  pub faults : AreFaults text (faults_among lints)
  pub first : BeginsAs (loops_in text) (map plain (faults_among lints))
  pub all : lints ≡ merged (faults_among lints) (lacks_for machine text)

-- the machine has a table for each opcode of a loop
abbrev pub has_tables : MachineData → LoopData → Bool
has_tables machine loop = list_all (λ (s : Statement). is_some (table_of machine s.opcode)) loop.statements

-- the text means loops, and the machine has a table for each opcode of theirs
pub record HasTables (machine : MachineData) (text : List ℕ) : Type 0 where
  pub loops : List LoopData
  pub read : loops_in text ≡ Ok loops
  pub tables : list_all (has_tables machine) loops ≡ true

-- the text means loops
pub record MeansLoops (text : List ℕ) : Type 0 where
  pub loops : List LoopData
  pub read : loops_in text ≡ Ok loops

-- nothing is told of a text just where it means loops, and the machine, if there is one, has all tables for them
abbrev pub SilentWith : Option MachineData → List ℕ → List LoopLint → Type 0
SilentWith None text lints = (lints ≡ []) ↔ MeansLoops text
SilentWith (Some machine) text lints = (lints ≡ []) ↔ HasTables machine text
