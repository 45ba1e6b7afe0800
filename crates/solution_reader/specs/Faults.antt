-- What is wrong with a line of a text of solutions, by the lines before it.
use Rattle.std.specs.Prelude.{ℕ, nat_lt, not, is_none, is_some, Bool, true, false, List, [], ◌∷◌, length, Option, Some, None}
use Rattle.std.specs.Option.{option_or}
use Rattle.machine_data.specs.declared.limits.TheConstants.{MAX_STATEMENTS, MAX_VALUES}
use Rattle.problem_lines.specs.SolutionForms.{SolutionForm, SolutionBegins, OpTime, ValueNumber, SolutionEnds}
use Rattle.problem_lines.specs.SolutionLines.{SolutionLineForm}
use Rattle.loop_lines.specs.Columns.{Placed}
use Rattle.problems.specs.declared.limits.TheConstants.{MAX_PROBLEMS}
use Rattle.solution_reader.specs.Data.{has_name, op_names, value_names, solution_names}
use Rattle.solution_reader.specs.Sofar.{TextLine, head_in, ops_in, values_in, solutions_in}
use Rattle.problem_faults.specs.declared.refused_solutions.Part.{Part}
use Rattle.problem_faults.specs.declared.refused_solutions.Part.TheVariants as part
use Rattle.solution_reader.specs.declared.fault.Told.{Told}
use Rattle.problem_faults.specs.declared.refused_solutions.Wrong.{Wrong}
use Rattle.problem_faults.specs.declared.refused_solutions.Wrong.TheVariants as wrong

-- the first of some faults
abbrev pub first_of : List (Option Told) → Option Told
first_of [] = None
first_of (fault ∷ faults) = option_or fault (first_of faults)

abbrev pub unless : Bool → Told → Option Told
unless true fault = None
unless false fault = Some fault

abbrev pub on_word : Placed → Wrong → Told
on_word w what = record { column = w.column; width = length w.bytes; what = what }

-- on the keyword
abbrev pub on_line : SolutionLineForm → Wrong → Told
on_line line what = record { column = line.column; width = line.width; what = what }

-- there is room for one more of a part, told where this says
abbrev pub room_at : (Wrong → Told) → ℕ → ℕ → Part → Option Told
room_at told count most what = unless (nat_lt count most) (told (wrong.Count what))

-- the name is new among these
abbrev pub new : List (List ℕ) → Placed → Option Told
new names name = unless (not (has_name names name.bytes)) (on_word name wrong.Repeated)

-- one more name that is told on a line, of a part of which there may be `most`
abbrev pub one_more : (Wrong → Told) → List (List ℕ) → ℕ → Part → Placed → Option Told
one_more told names most what name = first_of (room_at told (length names) most what ∷ new names name ∷ [])

-- the line may stand after these: what begins a solution outside one, the others inside
abbrev pub stands : List TextLine → SolutionForm → Bool
stands before (SolutionBegins name ii) = is_none (head_in before)
stands before form = is_some (head_in before)

-- what is wrong with what the words of a line mean, after these lines; a count that is too large is told on the keyword
abbrev pub meaning_fault : List TextLine → (Wrong → Told) → SolutionForm → Option Told
meaning_fault before told (SolutionBegins name ii) = one_more told (solution_names (solutions_in before)) MAX_PROBLEMS part.Solutions name
meaning_fault before told (OpTime name time alternative) = one_more told (op_names (ops_in before)) MAX_STATEMENTS part.Operations name
meaning_fault before told (ValueNumber name number) = one_more told (value_names (values_in before)) MAX_VALUES part.Values name
meaning_fault before told SolutionEnds = None

-- the first fault of a line that has a form
abbrev pub line_fault : List TextLine → SolutionLineForm → Option Told
line_fault before line = first_of (
    unless (stands before line.form) (on_line line wrong.Place)
    ∷ meaning_fault before (on_line line) line.form
    ∷ [])
