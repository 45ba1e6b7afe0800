-- What a check says of a problem: that a solution is one, what it breaks first, or what it lacks.
use Rattle.std.specs.Prelude.{ℕ, ◌==◌, if◌then◌else◌, codes, List, ◌++◌}
use Rattle.edges.specs.Edges.{EdgeData}
use Rattle.schedules.specs.declared.breach.Breach.{Breach}
use Rattle.schedules.specs.declared.breach.Breach.TheVariants.{Count, Time, Alternative, Slot, Edge, Stage}
use Rattle.schedules.specs.Schedules.{stages_of}
use Rattle.problems.specs.declared.draft.Draft.{Draft}
use Rattle.solutions.specs.declared.judging.broken.Broken.{Broken}
use Rattle.solutions.specs.declared.judging.broken.Broken.TheVariants.{Interval, Numbers, Number, Schedule, Registers}
use Rattle.solutions.specs.Solutions.{SolutionData, schedule_of}
use Rattle.writing.specs.Words.{told, told_signed}
use Rattle.solution_text.specs.declared.named.Register.{Register}
use Rattle.solution_text.specs.declared.verdicts.Missing.{Missing}
use Rattle.solution_text.specs.declared.verdicts.Missing.TheVariants.{Solution as NoSolution, Time as NoTime, Number as NoNumber}
use Rattle.solution_text.specs.Names.{op_name, unit_name, value_name}
use Rattle.solution_text.specs.Registers.{register_text}

-- `NAME ok ii I stages S`, with a line feed
abbrev pub ok_line : List ℕ → SolutionData → List ℕ
ok_line name s = ((name ++ told (codes " ok ii ") s.ii) ++ told (codes " stages ") (stages_of (schedule_of s))) ++ codes "\n"

-- `NAME broken: WHAT`, with a line feed
abbrev pub broken_line : List ℕ → List ℕ → List ℕ
broken_line name what = ((name ++ codes " broken: ") ++ what) ++ codes "\n"

-- `OP and OP both hold UNIT`, and of one and the same operation `OP holds UNIT twice`
abbrev pub holders_text : Draft → ℕ → ℕ → ℕ → List ℕ
holders_text draft earlier later unit = if earlier == later
    then (((op_name draft later ++ codes " holds ") ++ unit_name draft unit) ++ codes " twice")
    else ((((op_name draft earlier ++ codes " and ") ++ op_name draft later) ++ codes " both hold ") ++ unit_name draft unit)

-- `FROM to TO with delay D and distance N`
abbrev pub edge_text : Draft → EdgeData → List ℕ
edge_text draft edge =
    (((op_name draft edge.from ++ codes " to ") ++ op_name draft edge.to) ++ told_signed (codes " with delay ") edge.delay) ++ told (codes " and distance ") edge.distance

-- `: C cycles too early`, and `: 1 cycle too early`
abbrev pub early_text : ℕ → List ℕ
early_text cycles = told (codes ": ") cycles ++ (if cycles == 1 then codes " cycle too early" else codes " cycles too early")

-- what the places break, where they are no schedule
abbrev pub breach_text : Draft → Breach → List ℕ
breach_text draft Count = codes "not one time for each operation"
breach_text draft (Time op) = (codes "the time of " ++ op_name draft op) ++ codes " is out of range"
breach_text draft (Alternative op) = op_name draft op ++ codes " has no such alternative"
breach_text draft (Slot earlier later unit residue) = holders_text draft earlier later unit ++ told (codes " in row ") residue
breach_text draft (Edge edge early) = edge_text draft edge ++ early_text early
breach_text draft (Stage op) = op_name draft op ++ codes " is in stage 64 or later"

-- `VALUE and VALUE are both`, and of one and the same value `VALUE meets a later instance of itself`
abbrev pub meeting_text : Draft → ℕ → ℕ → List ℕ
meeting_text draft earlier later = if earlier == later
    then (value_name draft later ++ codes " meets a later instance of itself")
    else (((value_name draft earlier ++ codes " and ") ++ value_name draft later) ++ codes " are both")

-- and then ` in FILE.R in cycle C`: the register, and a cycle from the beginning of iteration 0 on
abbrev pub registers_text : Draft → ℕ → ℕ → Register → ℕ → List ℕ
registers_text draft earlier later register cycle =
    ((meeting_text draft earlier later ++ codes " in ") ++ register_text draft register) ++ told (codes " in cycle ") cycle

-- what a solution that is given for an interval breaks first
abbrev pub broken_text : Draft → ℕ → Broken → List ℕ
broken_text draft ii Interval = told (codes "interval ") ii ++ codes " is not 1 to 16384"
broken_text draft ii Numbers = codes "not one number for each value"
broken_text draft ii (Number value) = (codes "the number of " ++ value_name draft value) ++ codes " is out of range"
broken_text draft ii (Schedule breach) = breach_text draft breach
broken_text draft ii (Registers file earlier later register cycle) =
    registers_text draft earlier later (record { file = file; number = register }) cycle

-- what a text of solutions lacks
abbrev pub missing_text : Draft → Missing → List ℕ
missing_text draft NoSolution = codes "no solution"
missing_text draft (NoTime op) = codes "no time of " ++ op_name draft op
missing_text draft (NoNumber value) = codes "no number of " ++ value_name draft value
