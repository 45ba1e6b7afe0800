-- The values of a solution, its register files, and the registers that hold values of before the first iteration, as JSON.
use Rattle.std.specs.Prelude.{ℕ, ◌+◌, codes, List, length, Option, Some, None, option_map, slice_get, slice_index}
use Rattle.std.specs.List.{filter_map, flat_map, range_with_len}
use Rattle.serde_json.specs.Data.{Data, null, string, object, member, no_members}
use Rattle.instances.specs.Runs.{carried_by}
use Rattle.problems.specs.declared.draft.Draft.{Draft}
use Rattle.problems.specs.declared.draft.File.{File}
use Rattle.problems.specs.declared.draft.File.TheVariants.{Rotating, Unallotted}
use Rattle.solutions.specs.Copies.{copies_of, max_live_of}
use Rattle.solutions.specs.Runs.{run_of}
use Rattle.solutions.specs.Solutions.{SolutionData}
use Rattle.solution_text.specs.declared.named.Register.{Register}
use Rattle.solution_text.specs.Names.{file_name, value_name}
use Rattle.solution_text.specs.Registers.{opening_of}
use Rattle.solution_text.specs.Values.{file_of, life_of}
use Rattle.solution_json.specs.Parts.{count_value, register_object}

-- how many instances of a value of an unallotted file live at once at the most; `null` of a value of another file
abbrev pub copies_value : SolutionData → ℕ → Option File → Data
copies_value s value None = null
copies_value s value (Some (Rotating registers)) = null
copies_value s value (Some Unallotted) = count_value (copies_of s.ii (life_of s value))

-- the number of a value of a rotating file; `null` of a value of another file
abbrev pub number_value : SolutionData → ℕ → Option File → Data
number_value s value None = null
number_value s value (Some (Rotating registers)) = count_value (slice_index s.numbers value)
number_value s value (Some Unallotted) = null

-- a value whose file is of this kind: that file, and the first and the last cycle in which it lives in iteration 0
abbrev pub value_object_in : SolutionData → ℕ → Option File → Data
value_object_in s value kind =
    object (member (codes "copies") (copies_value s value kind)
    (member (codes "file") (string (file_name s.problem.draft (file_of s value)))
    (member (codes "first") (count_value (life_of s value).first)
    (member (codes "last") (count_value (life_of s value).last)
    (member (codes "name") (string (value_name s.problem.draft value))
    (member (codes "number") (number_value s value kind) no_members))))))

unfoldable pub value_object : SolutionData → ℕ → Data
value_object s value = value_object_in s value (slice_get s.problem.draft.files.items (file_of s value))

-- the register that before the first turn has the value's instance of `iterations` iterations before the first one
abbrev pub initial_object : Draft → ℕ → ℕ → Register → Data
initial_object draft value iterations register =
    object (member (codes "distance") (count_value iterations)
    (member (codes "register") (register_object draft register)
    (member (codes "value") (string (value_name draft value)) no_members)))

-- the same of a solution; none where the value is allotted to no register
unfoldable pub initial_at : SolutionData → ℕ → ℕ → Option Data
initial_at s value iterations = option_map (initial_object s.problem.draft value iterations) (opening_of s value iterations)

-- the initial values of a value: one for each iteration that it is carried on, from the latest one back
unfoldable pub initials_of : SolutionData → ℕ → List Data
initials_of s value = filter_map (λ k. initial_at s value (k + 1)) (range_with_len 0 (carried_by (run_of s) value))

-- those of all values, in order
abbrev pub initials : SolutionData → List Data
initials s = flat_map (initials_of s) (range_with_len 0 (length s.problem.draft.values.items))

-- how many registers a file has; `null` of an unallotted one
abbrev pub size_value : Option File → Data
size_value None = null
size_value (Some (Rotating registers)) = count_value registers
size_value (Some Unallotted) = null

-- a file: how many instances of its values live in one cycle at the most
unfoldable pub file_object : SolutionData → ℕ → Data
file_object s file =
    object (member (codes "max_live") (count_value (max_live_of s file))
    (member (codes "name") (string (file_name s.problem.draft file))
    (member (codes "registers") (size_value (slice_get s.problem.draft.files.items file)) no_members)))
