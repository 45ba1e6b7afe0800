-- The registers of a solution, as its operations name them. A name is resolved in the turn of the operation's issue.
use Rattle.std.specs.Prelude.{ℕ, ◌+◌, ◌%◌, codes, List, [], ◌++◌, Option, Some, None}
use Rattle.registers.specs.declared.value.Read.{Read}
use Rattle.instances.specs.Runs.{Home, Rotates, Unallotted, home_of, stage_of, value_of}
use Rattle.problems.specs.declared.draft.Draft.{Draft}
use Rattle.solutions.specs.Runs.{run_of}
use Rattle.solutions.specs.Solutions.{SolutionData}
use Rattle.writing.specs.Words.{told}
use Rattle.solution_text.specs.declared.named.Register.{Register}
use Rattle.solution_text.specs.Names.{file_name}

-- the register that is `above` after a home's number, counted round its file; none where the values are allotted to none
abbrev pub register_after : Home → ℕ → Option Register
register_after (Rotates file registers number) above = Some (record { file = file; number = (number + above) % registers })
register_after Unallotted above = None

-- where its maker puts a value
abbrev pub destination_of : SolutionData → ℕ → Option Register
destination_of s value = register_after (home_of (run_of s) value) (stage_of (run_of s) (value_of (run_of s) value).maker)

-- where a read finds its value
abbrev pub source_of : SolutionData → Read → Option Register
source_of s reading = register_after (home_of (run_of s) reading.value) (reading.distance + stage_of (run_of s) reading.reader)

-- where the instance `iterations` iterations before the first one is put before the first turn
abbrev pub opening_of : SolutionData → ℕ → ℕ → Option Register
opening_of s value iterations = register_after (home_of (run_of s) value) iterations

-- `FILE.K`
abbrev pub register_text : Draft → Register → List ℕ
register_text draft register = file_name draft register.file ++ told (codes ".") register.number

-- the same after a blank, nothing where there is none
abbrev pub spaced_register : Draft → Option Register → List ℕ
spaced_register draft None = []
spaced_register draft (Some register) = codes " " ++ register_text draft register
