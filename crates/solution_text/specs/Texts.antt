-- The text of what a problem gives.
use Rattle.std.specs.Prelude.{ℕ, codes, List, [], ◌++◌, Option, Some, None}
use Rattle.std.specs.List.{flat_map}
use Rattle.modulo.specs.declared.outcome.attempts.Culprit.{Culprit}
use Rattle.modulo.specs.declared.outcome.attempts.Culprit.TheVariants.{Blocked, Unplaced, Late}
use Rattle.schedules.specs.Schedules.{stages_of}
use Rattle.problems.specs.declared.draft.Draft.{Draft}
use Rattle.problems.specs.Problems.{ProblemData}
use Rattle.solutions.specs.declared.solving.outcome.Cause.{Cause}
use Rattle.solutions.specs.declared.solving.outcome.Cause.TheVariants.{Table, Budget, Stages, Registers}
use Rattle.solutions.specs.Outcomes.{last_of}
use Rattle.solutions.specs.Solutions.{SolutionData, schedule_of}
use Rattle.writing.specs.Words.{told}
use Rattle.solution_text.specs.Files.{file_lines, unroll_line}
use Rattle.solution_text.specs.Heads.{head_text}
use Rattle.solution_text.specs.Names.{file_name, op_name, value_name}
use Rattle.solution_text.specs.Operations.{op_lines}
use Rattle.solution_text.specs.Values.{initial_lines, value_lines}

-- `solution NAME ii I # stages S`, with a line feed
abbrev pub solution_line : List ℕ → SolutionData → List ℕ
solution_line name s =
    (((codes "solution " ++ name) ++ told (codes " ii ") s.ii) ++ told (codes " # stages ") (stages_of (schedule_of s))) ++ codes "\n"

-- the lines of a solution
unfoldable pub solution_lines : List ℕ → SolutionData → List ℕ
solution_lines name s =
    (((((solution_line name s ++ op_lines s) ++ value_lines s) ++ initial_lines s) ++ file_lines s) ++ unroll_line s) ++ codes "end\n"

-- the lines of a problem that is solved: its bounds, other lines on it, and its solution
abbrev pub solution_text : List ℕ → List ℕ → SolutionData → List ℕ
solution_text name notes s = head_text name notes s.problem ++ solution_lines name s

-- an operation after a blank
abbrev pub named : Draft → ℕ → List ℕ
named draft op = codes " " ++ op_name draft op

-- ` OP` for an operation that has no alternative, ` OP OP ..` for all that are not placed, ` OP at TIME` for one that is too late
abbrev pub culprit_text : Draft → Culprit → List ℕ
culprit_text draft (Blocked op) = named draft op
culprit_text draft (Unplaced ops) = flat_map (named draft) ops.items
culprit_text draft (Late op time) = named draft op ++ told (codes " at ") time

-- the same after a colon, nothing where it isn't known
abbrev pub evidence_text : Draft → Option Culprit → List ℕ
evidence_text draft None = []
evidence_text draft (Some culprit) = codes ":" ++ culprit_text draft culprit

-- `registers of FILE: VALUE`
abbrev pub lack_text : Draft → ℕ → ℕ → List ℕ
lack_text draft file value = ((codes "registers of " ++ file_name draft file) ++ codes ": ") ++ value_name draft value

-- a cause, with its culprits: of a lack of registers the file and the value that has none, of the others the culprits
abbrev pub cause_text : Draft → Cause → Option Culprit → List ℕ
cause_text draft Table culprit = codes "table" ++ evidence_text draft culprit
cause_text draft Budget culprit = codes "budget" ++ evidence_text draft culprit
cause_text draft Stages culprit = codes "stages" ++ evidence_text draft culprit
cause_text draft (Registers file value) culprit = lack_text draft file value

-- `# failed NAME at I: CAUSE`, with a line feed: the last interval that is tried, and why it gives no solution
abbrev pub failed_line : List ℕ → ProblemData → Cause → Option Culprit → List ℕ
failed_line name problem cause culprit =
    ((((codes "# failed " ++ name) ++ told (codes " at ") (last_of problem)) ++ codes ": ") ++ cause_text problem.draft cause culprit) ++ codes "\n"

-- the lines of a problem that has no solution: its bounds, other lines on it, and that
abbrev pub failed_text : List ℕ → List ℕ → ProblemData → Cause → Option Culprit → List ℕ
failed_text name notes problem cause culprit = head_text name notes problem ++ failed_line name problem cause culprit
