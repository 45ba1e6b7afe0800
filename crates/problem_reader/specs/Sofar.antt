-- What the lines of a text have said so far: look-ups over the lines before a line, none of which has a fault.
use Rattle.std.specs.Prelude.{ℕ, ◌&&◌, not, Bool, true, false, if◌then◌else◌, List, [], ◌∷◌, ◌++◌, map, Option, Some, None}
use Rattle.std.specs.List.{list_any, filter_map, flat_map}
use Rattle.machine_data.specs.Opcodes.{same_word}
use Rattle.problem_lines.specs.Forms.{Form, MachineLine, UnitsLine, FileLine, KindLine, ProblemLine, OpLine, ValueLine, ReadLine, EdgeLine, EndLine}
use Rattle.problem_tables.specs.Names.{bytes_of, index_of}

abbrev pub is_machine : Form → Bool
is_machine (MachineLine name) = true
is_machine form = false

abbrev pub is_problem : Form → Bool
is_problem (ProblemLine name) = true
is_problem form = false

-- the lines after the last one that is so; after these where there is none
abbrev pub since : (Form → Bool) → List Form → List Form → List Form
since opens sofar [] = sofar
since opens sofar (form ∷ forms) = if opens form then since opens [] forms else since opens (sofar ++ form ∷ []) forms

-- the lines of the machine under way, and those of its problems
abbrev pub machine_lines : List Form → List Form
machine_lines before = since is_machine [] before

-- the lines of the problem under way
abbrev pub problem_lines : List Form → List Form
problem_lines before = since is_problem [] before

abbrev pub has_machine : List Form → Bool
has_machine before = list_any is_machine before

-- the machine under way has a problem
abbrev pub is_served : List Form → Bool
is_served before = list_any is_problem (machine_lines before)

-- a problem is under way: the last line that begins or ends one begins it
abbrev pub inside : Bool → List Form → Bool
inside now [] = now
inside now (ProblemLine name ∷ forms) = inside true forms
inside now (EndLine ∷ forms) = inside false forms
inside now (form ∷ forms) = inside now forms

abbrev pub is_inside : List Form → Bool
is_inside before = inside false before

-- the line may stand after these
abbrev pub stands : List Form → Form → Bool
stands before (MachineLine name) = not (is_inside before)
stands before (ProblemLine name) = has_machine before && not (is_inside before)
stands before (UnitsLine names) = has_machine before && not (is_served before)
stands before (FileLine name storage) = has_machine before && not (is_served before)
stands before (KindLine name latency alternatives) = has_machine before && not (is_served before)
stands before form = is_inside before

-- what lines declare, in order

abbrev pub machine_name : Form → Option (List ℕ)
machine_name (MachineLine name) = Some name.bytes
machine_name form = None

abbrev pub problem_name : Form → Option (List ℕ)
problem_name (ProblemLine name) = Some name.bytes
problem_name form = None

abbrev pub unit_names : Form → List (List ℕ)
unit_names (UnitsLine names) = bytes_of names
unit_names form = []

abbrev pub file_name : Form → Option (List ℕ)
file_name (FileLine name storage) = Some name.bytes
file_name form = None

abbrev pub kind_name : Form → Option (List ℕ)
kind_name (KindLine name latency alternatives) = Some name.bytes
kind_name form = None

abbrev pub op_name : Form → Option (List ℕ)
op_name (OpLine name kind) = Some name.bytes
op_name form = None

abbrev pub value_name : Form → Option (List ℕ)
value_name (ValueLine name maker lands file out) = Some name.bytes
value_name form = None

abbrev pub is_read : Form → Bool
is_read (ReadLine reader value distance offset) = true
is_read form = false

abbrev pub is_edge : Form → Bool
is_edge (EdgeLine from to delay distance) = true
is_edge form = false

abbrev pub machines_in : List Form → List (List ℕ)
machines_in before = filter_map machine_name before

abbrev pub problems_in : List Form → List (List ℕ)
problems_in before = filter_map problem_name before

-- of the machine under way
abbrev pub units_in : List Form → List (List ℕ)
units_in before = flat_map unit_names (machine_lines before)

abbrev pub files_in : List Form → List (List ℕ)
files_in before = filter_map file_name (machine_lines before)

abbrev pub kinds_in : List Form → List (List ℕ)
kinds_in before = filter_map kind_name (machine_lines before)

-- of the problem under way
abbrev pub ops_in : List Form → List (List ℕ)
ops_in before = filter_map op_name (problem_lines before)

abbrev pub values_in : List Form → List (List ℕ)
values_in before = filter_map value_name (problem_lines before)

-- the name of the operation that makes the value of this name
abbrev pub maker_name : List ℕ → Form → Option (List ℕ)
maker_name name (ValueLine other maker lands file out) = if same_word name other.bytes then Some maker.bytes else None
maker_name name form = None

-- the numbers of the operations that make the values of this name in the problem under way, of which there is one at most
abbrev pub makers_in : List Form → List ℕ → List ℕ
makers_in before name = map (index_of (ops_in before)) (filter_map (maker_name name) (problem_lines before))
