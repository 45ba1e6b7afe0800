-- A solution of a text by the names of a problem: the lists of times, alternatives and numbers that it gives, in the problem's order.
use Rattle.std.specs.Prelude.{ℕ, ◌+◌, nat_lt, not, Bool, if◌then◌else◌, List, [], ◌∷◌, length, map, find, Option, Some, None, option_map, Result, Ok, Err, slice_get, Vec}
use Rattle.std.specs.Global.{Global}
use Rattle.std.specs.List.{zip, slice_index_or}
use Rattle.machine_data.specs.Opcodes.{same_word}
use Rattle.loop_lines.specs.Columns.{Placed}
use Rattle.problems.specs.declared.draft.Draft.{Draft}
use Rattle.problems.specs.declared.draft.File.{File}
use Rattle.problems.specs.declared.draft.File.TheVariants as file
use Rattle.problems.specs.declared.draft.Value.{Value}
use Rattle.solution_reader.specs.Data.{OpData, ValueData, SolutionData, has_name}
use Rattle.problem_faults.specs.declared.refused_solutions.Part.{Part}
use Rattle.problem_faults.specs.declared.refused_solutions.Part.TheVariants as part
use Rattle.problem_faults.specs.declared.refused_solutions.SolutionFault.{SolutionFault}
use Rattle.problem_faults.specs.declared.refused_solutions.Wrong.TheVariants as wrong

abbrev pub no_solution : SolutionData
no_solution = record { head = record { name = record { bytes = []; column = 0 }; line = 0; ii = 0 }; ops = []; values = [] }

-- the solution with this number, from 0
abbrev pub solution_at : List SolutionData → ℕ → SolutionData
solution_at solutions number = slice_index_or solutions number no_solution

-- the line of a name, if there is one

abbrev pub op_named : List OpData → List ℕ → Option OpData
op_named ops name = find (λ (o : OpData). same_word name o.name.bytes) ops

abbrev pub value_named : List ValueData → List ℕ → Option ValueData
value_named values name = find (λ (v : ValueData). same_word name v.name.bytes) values

-- the lists

-- one more in front
abbrev pub with_told : {A : Type 0} → A → Result (List A) ℕ → Result (List A) ℕ
with_told told (Ok more) = Ok (told ∷ more)
with_told told (Err number) = Err number

-- what each of these is, or the number of the first, counted from this one on, that is nothing
abbrev pub each_told : {A : Type 0} → ℕ → List (Option A) → Result (List A) ℕ
each_told number [] = Ok []
each_told number (None ∷ more) = Err number
each_told number (Some told ∷ more) = with_told told (each_told (number + 1) more)

-- the list that is found, or the number of the first that has nothing
abbrev pub told_of : {A : Type 0} → Result (Vec A Global) ℕ → Result (List A) ℕ
told_of (Ok found) = Ok found.items
told_of (Err number) = Err number

-- the issue time and the alternative that an operation is told
abbrev pub place_told : List OpData → List ℕ → Option (ℕ × ℕ)
place_told ops name = option_map (λ (o : OpData). (o.time, o.alternative)) (op_named ops name)

-- those of each operation, or the first one without a line
abbrev pub places_told : SolutionData → Draft → Result (List (ℕ × ℕ)) ℕ
places_told s draft = each_told 0 (map (place_told s.ops) draft.names.operations.items)

-- the number of a value without a line: it needs none in an unallotted file, and 0 stands for that
abbrev pub number_without : Option File → Option ℕ
number_without (Some file.Unallotted) = Some 0
number_without other = None

-- the number that a value of a file is told
abbrev pub number_or : Option ValueData → Option File → Option ℕ
number_or (Some v) kind = Some v.number
number_or None kind = number_without kind

abbrev pub number_told : List ValueData → List File → List ℕ × Value → Option ℕ
number_told values files named = number_or (value_named values named.0) (slice_get files named.1.file)

-- those of each value, or the first one that needs a line and has none
abbrev pub numbers_told : SolutionData → Draft → Result (List ℕ) ℕ
numbers_told s draft = each_told 0 (map (number_told s.values draft.files.items) (zip draft.names.values.items draft.values.items))

-- names that are none of the problem's

abbrev pub unknown_at : ℕ → Placed → Part → SolutionFault
unknown_at line name what = record { line = line; column = name.column; width = length name.bytes; what = wrong.Unknown what }

-- the first operation, or value, of a solution whose name fails a test
abbrev pub first_op_failing : (List ℕ → Bool) → List OpData → Option SolutionFault
first_op_failing is_known ops = option_map (λ (o : OpData). unknown_at o.line o.name part.Operations) (find (λ (o : OpData). not (is_known o.name.bytes)) ops)

abbrev pub first_value_failing : (List ℕ → Bool) → List ValueData → Option SolutionFault
first_value_failing is_known values = option_map (λ (v : ValueData). unknown_at v.line v.name part.Values) (find (λ (v : ValueData). not (is_known v.name.bytes)) values)

-- the one of two faults whose line comes first
abbrev pub earlier : Option SolutionFault → Option SolutionFault → Option SolutionFault
earlier None other = other
earlier (Some one) None = Some one
earlier (Some one) (Some other) = if nat_lt other.line one.line then Some other else Some one

-- the first line of a solution that names no operation, or no value, of a problem
abbrev pub unknown_in : SolutionData → Draft → Option SolutionFault
unknown_in s draft = earlier (first_op_failing (has_name draft.names.operations.items) s.ops) (first_value_failing (has_name draft.names.values.items) s.values)
