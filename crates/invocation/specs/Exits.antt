-- The number by which the process exits, and what stands on the standard error.
use Rattle.std.specs.Prelude.{ℕ, codes, Bool, true, false, List, [], ◌++◌, Result, Ok, Err, string_bytes}
use Rattle.command_line.specs.declared.line.Usage.{Usage}
use Rattle.command_line.specs.declared.line.Usage.TheVariants.{Help, Refused, Memory}
use Rattle.exit_status.specs.Statuses.{has_line, line_of, status_number}
use Rattle.exit_status.specs.declared.status.Status.{Status}

-- the number by which the process exits: that of a status, 0 for help, 2 for a line that is refused, 7 where memory runs out
abbrev pub exit_number_of : Result Status Usage → ℕ
exit_number_of (Ok status) = status_number status
exit_number_of (Err (Help text)) = 0
exit_number_of (Err (Refused text)) = 2
exit_number_of (Err Memory) = 7

-- a line after the program's name, where there is one to tell
abbrev pub told_line : Bool → List ℕ → List ℕ
told_line false line = []
told_line true line = (codes "modsched: " ++ line) ++ codes "\n"

-- what stands on the standard error: the line of a status that has one, or why a line of words is refused
abbrev pub told_of : Result Status Usage → List ℕ
told_of (Ok status) = told_line (has_line status) (line_of status)
told_of (Err (Help text)) = []
told_of (Err (Refused text)) = string_bytes text
told_of (Err Memory) = codes "modsched: out of memory\n"
