-- What is read of a text without a fault: its machines, and its problems with the numbers of their machines.
use Rattle.std.specs.Prelude.{◌≡◌, ◌⊎◌, ℕ, pos, ◌-◌, ◌<◌, if◌then◌else◌, List, [], ◌∷◌, ◌++◌, length, map, Option, Some, None, unwrap_or, Result, Ok, Err}
use Rattle.std.specs.List.{All, filter_map, slice_index_or}
use Rattle.problem_lines.specs.Forms.{Form, MachineLine, FileLine, KindLine, OpLine, ValueLine, ReadLine, EdgeLine, EndLine}
use Rattle.problems.specs.declared.draft.File.{File}
use Rattle.problems.specs.declared.draft.Value.{Value}
use Rattle.problems.specs.declared.draft.Order.{Order}
use Rattle.problems.specs.declared.draft.Draft.{Draft}
use Rattle.problems.specs.Faults.{first_fault_of}
use Rattle.registers.specs.declared.value.Read.{Read}
use Rattle.problem_tables.specs.Data.{KindData, MachineData, ProblemData, FileData, file_of, kind_of, kind_seen}
use Rattle.problem_tables.specs.Faults.{number_or_0}
use Rattle.problem_tables.specs.Names.{index_of, last_name}
use Rattle.problem_faults.specs.declared.refused_problems.Wrong.TheVariants.{Memory}
use Rattle.problem_reader.specs.Sofar.{has_machine, machine_lines, problem_lines, machines_in, problems_in, units_in, files_in, kinds_in, ops_in, values_in}
use Rattle.problem_reader.specs.Meaning.{forms_in}
use Rattle.problem_faults.specs.declared.refused_problems.TextFault.{TextFault}

abbrev pub file_in : Form → Option File
file_in (FileLine name storage) = Some (file_of storage)
file_in form = None

abbrev pub kind_in : List (List ℕ) → Form → Option KindData
kind_in units (KindLine name latency alternatives) = Some (kind_of units latency alternatives)
kind_in units form = None

-- the machine that these lines have last
abbrev pub machine_of : List Form → MachineData
machine_of before = record {
  name = last_name (machines_in before);
  units = units_in before;
  files = filter_map file_in (machine_lines before);
  file_names = files_in before;
  kinds = filter_map (kind_in (units_in before)) (machine_lines before);
  kind_names = kinds_in before;
}

abbrev pub op_in : List (List ℕ) → Form → Option ℕ
op_in kinds (OpLine name kind) = Some (index_of kinds kind.bytes)
op_in kinds form = None

abbrev pub value_in : List (List ℕ) → List (List ℕ) → Form → Option Value
value_in ops files (ValueLine name maker lands file out) =
    Some (record { maker = index_of ops maker.bytes; lands = lands.value; out = out; file = index_of files file.bytes })
value_in ops files form = None

abbrev pub read_in : List (List ℕ) → List (List ℕ) → Form → Option Read
read_in ops values (ReadLine reader value distance offset) =
    Some (record { value = index_of values value.bytes; reader = index_of ops reader.bytes; distance = number_or_0 distance; offset = number_or_0 offset })
read_in ops values form = None

abbrev pub order_in : List (List ℕ) → Form → Option Order
order_in ops (EdgeLine from to delay distance) =
    Some (record { from = index_of ops from.bytes; to = index_of ops to.bytes; delay = unwrap_or delay.value (pos 0); distance = distance.value })
order_in ops form = None

-- the problem that these lines have last
abbrev pub problem_of : List Form → ProblemData
problem_of before = record {
  name = last_name (problems_in before);
  machine = length (machines_in before) - 1;
  operations = filter_map (op_in (kinds_in before)) (problem_lines before);
  operation_names = ops_in before;
  values = filter_map (value_in (ops_in before) (files_in before)) (problem_lines before);
  value_names = values_in before;
  reads = filter_map (read_in (ops_in before) (values_in before)) (problem_lines before);
  orders = filter_map (order_in (ops_in before)) (problem_lines before);
}

-- the machine under way, if there is one
abbrev pub last_machine : List Form → List MachineData
last_machine before = if has_machine before then machine_of before ∷ [] else []

-- each machine goes up to the next `machine`, or to the end
abbrev pub machines_from : List Form → List Form → List MachineData
machines_from before [] = last_machine before
machines_from before (MachineLine name ∷ forms) = last_machine before ++ machines_from (before ++ MachineLine name ∷ []) forms
machines_from before (form ∷ forms) = machines_from (before ++ form ∷ []) forms

-- each problem goes up to its `end`
abbrev pub problems_from : List Form → List Form → List ProblemData
problems_from before [] = []
problems_from before (EndLine ∷ forms) = problem_of before ∷ problems_from (before ++ EndLine ∷ []) forms
problems_from before (form ∷ forms) = problems_from (before ++ form ∷ []) forms

abbrev pub file_data : List Form → FileData
file_data forms = record { machines = machines_from [] forms; problems = problems_from [] forms }

abbrev pub data_or : Result (List Form) TextFault → Result FileData TextFault
data_or (Ok forms) = Ok (file_data forms)
data_or (Err fault) = Err fault

-- what a text means
abbrev pub file_in_text : List ℕ → Result FileData TextFault
file_in_text text = data_or (forms_in text)

-- what is told where memory runs out: it says nothing of the text
abbrev pub out_of_memory : TextFault
out_of_memory = record { line = 0; column = 0; width = 0; what = Memory }

-- the result is the meaning, unless memory runs out
abbrev pub AnswersText : Result FileData TextFault → Result FileData TextFault → Type 0
AnswersText (Ok file) meaning = Ok file ≡ meaning
AnswersText (Err fault) meaning = (Err fault ≡ meaning) ⊎ (fault ≡ out_of_memory)

-- drafts

-- the draft of a problem on its machine
pub record IsDraftOf (machine : MachineData) (problem : ProblemData) (draft : Draft) : Type 0 where
  pub units : draft.units ≡ length machine.units
  pub files : draft.files.items ≡ machine.files
  pub kinds : map kind_seen draft.kinds.items ≡ machine.kinds
  pub operations : draft.operations.items ≡ problem.operations
  pub values : draft.values.items ≡ problem.values
  pub reads : draft.reads.items ≡ problem.reads
  pub orders : draft.orders.items ≡ problem.orders
  pub unit_names : draft.names.units.items ≡ machine.units
  pub file_names : draft.names.files.items ≡ machine.file_names
  pub kind_names : draft.names.kinds.items ≡ machine.kind_names
  pub operation_names : draft.names.operations.items ≡ problem.operation_names
  pub value_names : draft.names.values.items ≡ problem.value_names

abbrev pub nowhere : MachineData
nowhere = record { name = []; units = []; files = []; file_names = []; kinds = []; kind_names = [] }

abbrev pub machine_at : FileData → ℕ → MachineData
machine_at file number = slice_index_or file.machines number nowhere

abbrev pub nothing : ProblemData
nothing = record { name = []; machine = 0; operations = []; operation_names = []; values = []; value_names = []; reads = []; orders = [] }

abbrev pub problem_at : FileData → ℕ → ProblemData
problem_at file number = slice_index_or file.problems number nothing

-- a problem is on a machine of its file, and no draft of it has a fault
pub record IsFaultlessIn (file : FileData) (problem : ProblemData) : Type 0 where
  pub placed : problem.machine < length file.machines
  pub faultless : (draft : Draft) → IsDraftOf (machine_at file problem.machine) problem draft → first_fault_of draft ≡ None

-- each problem is so
abbrev pub IsFile : FileData → Type 0
IsFile file = All (IsFaultlessIn file) file.problems
