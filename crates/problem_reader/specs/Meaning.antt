-- What a text of scheduling problems means: its lines, or the first line at fault with its first fault.
use Rattle.std.specs.Prelude.{ℕ, ◌+◌, ◌||◌, nat_lt, Bool, if◌then◌else◌, List, [], ◌∷◌, ◌++◌, length, map, Option, Some, None, Result, Ok, Err, count_by}
use Rattle.std.specs.List.{list_all}
use Rattle.machine_data.specs.declared.limits.TheConstants.{MAX_DISTANCE, MAX_FILES, MAX_KINDS, MAX_LATENCY, MAX_OFFSET, MAX_ORDERS, MAX_ORDER_DISTANCE, MAX_READS, MAX_STATEMENTS, MAX_VALUES}
use Rattle.loop_lines.specs.Words.{lines_of}
use Rattle.problem_lines.specs.Forms.{Form, MachineLine, UnitsLine, FileLine, KindLine, ProblemLine, OpLine, ValueLine, ReadLine, EdgeLine, EndLine}
use Rattle.problem_lines.specs.Lines.{LineForm, line_form}
use Rattle.loop_lines.specs.Columns.{Placed, placed_words}
use Rattle.problem_lines.specs.declared.fault.LineFault.{LineFault}
use Rattle.problem_lines.specs.declared.number.Number.{Number}
use Rattle.problems.specs.declared.limits.TheConstants.{MAX_PROBLEMS, MAX_PROBLEM_TEXT}
use Rattle.problem_tables.specs.Faults.{first_of, unless, on_word, on_line, room_at, new, known, in_range, units_fault, storage_fault, alternatives_fault, offset_fault, delay_fault, number_or_0}
use Rattle.problem_tables.specs.Names.{index_of}
use Rattle.problem_faults.specs.declared.refused_problems.Part.TheVariants as part
use Rattle.problem_tables.specs.declared.fault.Told.{Told}
use Rattle.problem_faults.specs.declared.refused_problems.Wrong.{Wrong}
use Rattle.problem_faults.specs.declared.refused_problems.Wrong.TheVariants as wrong
use Rattle.problem_reader.specs.Sofar.{stands, machines_in, problems_in, units_in, files_in, kinds_in, ops_in, values_in, makers_in, is_read, is_edge, is_inside, problem_lines}
use Rattle.problem_faults.specs.declared.refused_problems.TextFault.{TextFault}

-- in its own iteration only an earlier operation's value is read
abbrev pub reads_forward : List Form → Placed → Placed → Option Number → Bool
reads_forward before reader value distance =
    nat_lt 0 (number_or_0 distance) || list_all (λ maker. nat_lt maker (index_of (ops_in before) reader.bytes)) (makers_in before value.bytes)

-- within an iteration orders go forward
abbrev pub goes_forward : List Form → Placed → Placed → Number → Bool
goes_forward before from to distance =
    nat_lt 0 distance.value || nat_lt (index_of (ops_in before) from.bytes) (index_of (ops_in before) to.bytes)

-- what is wrong with what the words of a line mean, from left to right, after these lines; a count that is too large is told on the keyword
abbrev pub meaning_faults : List Form → (Wrong → Told) → Form → List (Option Told)
meaning_faults before told (MachineLine name) = new (machines_in before) name ∷ []
meaning_faults before told (UnitsLine names) = units_fault (units_in before) names ∷ []
meaning_faults before told (FileLine name storage) =
    room_at told (length (files_in before)) MAX_FILES part.Files ∷ new (files_in before) name ∷ storage_fault storage ∷ []
meaning_faults before told (KindLine name latency alternatives) =
    room_at told (length (kinds_in before)) MAX_KINDS part.Kinds
    ∷ new (kinds_in before) name
    ∷ in_range 1 MAX_LATENCY latency
    ∷ alternatives_fault (units_in before) 0 alternatives
    ∷ []
meaning_faults before told (ProblemLine name) =
    room_at told (length (problems_in before)) MAX_PROBLEMS part.Problems ∷ new (problems_in before) name ∷ []
meaning_faults before told (OpLine name kind) =
    room_at told (length (ops_in before)) MAX_STATEMENTS part.Operations ∷ new (ops_in before) name ∷ known (kinds_in before) part.Kinds kind ∷ []
meaning_faults before told (ValueLine name maker lands file out) =
    room_at told (length (values_in before)) MAX_VALUES part.Values
    ∷ new (values_in before) name
    ∷ known (ops_in before) part.Operations maker
    ∷ in_range 0 MAX_LATENCY lands
    ∷ known (files_in before) part.Files file
    ∷ []
meaning_faults before told (ReadLine reader value distance offset) =
    room_at told (count_by is_read (problem_lines before)) MAX_READS part.Reads
    ∷ known (ops_in before) part.Operations reader
    ∷ known (values_in before) part.Values value
    ∷ offset_fault MAX_DISTANCE distance
    ∷ offset_fault MAX_OFFSET offset
    ∷ unless (reads_forward before reader value distance) (on_word value wrong.Backward)
    ∷ []
meaning_faults before told (EdgeLine from to delay distance) =
    room_at told (count_by is_edge (problem_lines before)) MAX_ORDERS part.Edges
    ∷ known (ops_in before) part.Operations from
    ∷ known (ops_in before) part.Operations to
    ∷ delay_fault delay
    ∷ in_range 0 MAX_ORDER_DISTANCE distance
    ∷ unless (goes_forward before from to distance) (on_word to wrong.Backward)
    ∷ []
meaning_faults before told EndLine = unless (nat_lt 0 (length (ops_in before))) (told (wrong.Count part.Operations)) ∷ []

-- the first fault of a line that has a form
abbrev pub line_fault : List Form → LineForm → Option Told
line_fault before line = first_of (
    unless (stands before line.form) (on_line line wrong.Place)
    ∷ meaning_faults before (on_line line) line.form)

abbrev pub at_line : ℕ → Told → TextFault
at_line number told = record { line = number; column = told.column; width = told.width; what = told.what }

abbrev pub form_fault : ℕ → LineFault → TextFault
form_fault number fault = record { line = number; column = fault.column; width = fault.width; what = wrong.Form fault.what }

-- the text ends inside a problem
abbrev pub end_fault : ℕ → TextFault
end_fault number = record { line = number; column = 1; width = 0; what = wrong.NoEnd }

-- what follows a line, unless the line has a fault
abbrev pub judged : Option Told → ℕ → Result (List Form) TextFault → Result (List Form) TextFault
judged None number rest = rest
judged (Some told) number rest = Err (at_line number told)

-- the lines of a text from this number on, after these: all that have words, or the first fault
abbrev pub forms_from : ℕ → List Form → List (Result (Option LineForm) LineFault) → Result (List Form) TextFault
forms_from number before [] = if is_inside before then Err (end_fault number) else Ok before
forms_from number before (Err fault ∷ lines) = Err (form_fault number fault)
forms_from number before (Ok None ∷ lines) = forms_from (number + 1) before lines
forms_from number before (Ok (Some line) ∷ lines) = judged (line_fault before line) number (forms_from (number + 1) (before ++ line.form ∷ []) lines)

-- what each line says
abbrev pub lines_in : List ℕ → List (Result (Option LineForm) LineFault)
lines_in text = map (λ line. line_form (placed_words line)) (lines_of text)

-- the lines that a text has, without those that say nothing, or its first fault. The length of the text is limited
unfoldable pub forms_in : List ℕ → Result (List Form) TextFault
forms_in text =
    if nat_lt MAX_PROBLEM_TEXT (length text) then Err (record { line = 0; column = 0; width = 0; what = wrong.TextSize })
    else forms_from 1 [] (lines_in text)
