-- The lines of the values of a solution, and of the registers that hold values of before the first iteration.
use Rattle.std.specs.Prelude.{ℕ, ◌+◌, codes, List, [], ◌++◌, length, Option, Some, None, slice_get, slice_index}
use Rattle.std.specs.List.{flat_map, range_with_len, slice_index_or}
use Rattle.registers.specs.declared.lifetime.Lifetime.{Lifetime}
use Rattle.instances.specs.Runs.{carried_by}
use Rattle.problems.specs.declared.draft.File.{File}
use Rattle.problems.specs.declared.draft.File.TheVariants.{Rotating, Unallotted}
use Rattle.solutions.specs.Copies.{copies_of}
use Rattle.solutions.specs.Runs.{run_of}
use Rattle.solutions.specs.Solutions.{SolutionData, files_of, lives_of_solution}
use Rattle.writing.specs.Words.{told}
use Rattle.solution_text.specs.declared.named.Register.{Register}
use Rattle.solution_text.specs.Names.{file_name, value_name}
use Rattle.solution_text.specs.Registers.{opening_of, register_text}

-- when the value with a number lives in iteration 0. What it would be beyond the values doesn't matter
abbrev pub life_of : SolutionData → ℕ → Lifetime
life_of s value = slice_index_or (lives_of_solution s) value (record { operation = 0; first = 0; last = 0 })

-- the number of a value's file
abbrev pub file_of : SolutionData → ℕ → ℕ
file_of s value = slice_index (files_of s.problem.draft) value

-- the file of a value, and the first and the last cycle in which the value lives in iteration 0
abbrev pub live_text : SolutionData → ℕ → List ℕ
live_text s value =
    (file_name s.problem.draft (file_of s value) ++ told (codes ": live ") (life_of s value).first) ++ told (codes " to ") (life_of s value).last

-- of a value of a rotating file its name and its number, and after `#` its file and its life; of one of an unallotted file, all after `#`, its name,
-- its file and its life, and how many of its instances live at once at the most
abbrev pub value_line_in : SolutionData → ℕ → Option File → List ℕ
value_line_in s value None = []
value_line_in s value (Some (Rotating registers)) =
    ((((codes "value " ++ value_name s.problem.draft value) ++ told (codes " number ") (slice_index s.numbers value)) ++ codes " # ") ++ live_text s value) ++ codes "\n"
value_line_in s value (Some Unallotted) =
    ((((codes "# value " ++ value_name s.problem.draft value) ++ codes " ") ++ live_text s value) ++ told (codes ", copies ") (copies_of s.ii (life_of s value))) ++ codes "\n"

-- the line of a value
unfoldable pub value_line : SolutionData → ℕ → List ℕ
value_line s value = value_line_in s value (slice_get s.problem.draft.files.items (file_of s value))

-- the lines of all values, in order
abbrev pub value_lines : SolutionData → List ℕ
value_lines s = flat_map (value_line s) (range_with_len 0 (length s.problem.draft.values.items))

-- `# initial FILE.K NAME distance D`: the register that before the first turn has the value's instance of `D` iterations before the
-- first one; nothing where the value is allotted to none
abbrev pub initial_line_in : SolutionData → ℕ → ℕ → Option Register → List ℕ
initial_line_in s value iterations None = []
initial_line_in s value iterations (Some register) =
    ((((codes "# initial " ++ register_text s.problem.draft register) ++ codes " ") ++ value_name s.problem.draft value) ++ told (codes " distance ") iterations) ++ codes "\n"

unfoldable pub initial_line : SolutionData → ℕ → ℕ → List ℕ
initial_line s value iterations = initial_line_in s value iterations (opening_of s value iterations)

-- the initial values of a value: one for each iteration that it is carried on, from the latest one back
unfoldable pub initials_of : SolutionData → ℕ → List ℕ
initials_of s value = flat_map (λ k. initial_line s value (k + 1)) (range_with_len 0 (carried_by (run_of s) value))

-- those of all values, in order
abbrev pub initial_lines : SolutionData → List ℕ
initial_lines s = flat_map (initials_of s) (range_with_len 0 (length s.problem.draft.values.items))
