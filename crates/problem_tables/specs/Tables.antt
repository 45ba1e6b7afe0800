-- What the lines so far have said, as lists: the first fault of the next line, and the lists with it.
use Rattle.std.specs.Prelude.{ℕ, pos, ◌-◌, ◌&&◌, ◌||◌, not, nat_lt, Bool, true, false, if◌then◌else◌, List, [], ◌∷◌, ◌++◌, length, Option, unwrap_or}
use Rattle.std.specs.List.{slice_index_or}
use Rattle.machine_data.specs.declared.limits.TheConstants.{MAX_DISTANCE, MAX_FILES, MAX_KINDS, MAX_LATENCY, MAX_OFFSET, MAX_ORDERS, MAX_ORDER_DISTANCE, MAX_READS, MAX_STATEMENTS, MAX_VALUES}
use Rattle.problem_lines.specs.Forms.{Form, MachineLine, UnitsLine, FileLine, KindLine, ProblemLine, OpLine, ValueLine, ReadLine, EdgeLine, EndLine, HoldForm}
use Rattle.problem_lines.specs.Lines.{LineForm}
use Rattle.loop_lines.specs.Columns.{Placed}
use Rattle.problem_lines.specs.declared.number.Number.{Number}
use Rattle.problem_lines.specs.declared.number.Integer.{Integer}
use Rattle.problem_lines.specs.declared.number.Storage.{Storage}
use Rattle.problems.specs.declared.draft.File.{File}
use Rattle.problems.specs.declared.draft.Value.{Value}
use Rattle.problems.specs.declared.draft.Order.{Order}
use Rattle.problems.specs.declared.limits.TheConstants.{MAX_PROBLEMS}
use Rattle.registers.specs.declared.value.Read.{Read}
use Rattle.problem_tables.specs.Data.{KindData, MachineData, ProblemData, FileData, file_of, kind_of}
use Rattle.problem_tables.specs.Faults.{first_of, unless, on_line, on_word, room_at, new, known, in_range, units_fault, storage_fault, alternatives_fault, offset_fault, delay_fault, number_or_0}
use Rattle.problem_tables.specs.Names.{bytes_of, index_of, last_name}
use Rattle.problem_faults.specs.declared.refused_problems.Part.TheVariants as part
use Rattle.problem_tables.specs.declared.fault.Told.{Told}
use Rattle.problem_faults.specs.declared.refused_problems.Wrong.{Wrong}
use Rattle.problem_faults.specs.declared.refused_problems.Wrong.TheVariants as wrong

-- of the machine under way
pub record MachineParts : Type 0 where
  pub units : List (List ℕ)
  pub files : List File
  pub file_names : List (List ℕ)
  pub kinds : List KindData
  pub kind_names : List (List ℕ)

abbrev pub no_machine : MachineParts
no_machine = record { units = []; files = []; file_names = []; kinds = []; kind_names = [] }

-- of the problem under way
pub record ProblemParts : Type 0 where
  pub operations : List ℕ
  pub operation_names : List (List ℕ)
  pub values : List Value
  pub value_names : List (List ℕ)
  pub reads : List Read
  pub orders : List Order

abbrev pub no_problem : ProblemParts
no_problem = record { operations = []; operation_names = []; values = []; value_names = []; reads = []; orders = [] }

pub record TablesData : Type 0 where
  -- the names of all machines and problems
  pub machines : List (List ℕ)
  pub problems : List (List ℕ)
  pub machine : MachineParts
  pub problem : ProblemParts
  -- the machine under way has a problem
  pub served : Bool
  -- a problem is under way
  pub inside : Bool
  pub ended : FileData

-- before the first line
abbrev pub no_tables : TablesData
no_tables = record {
  machines = [];
  problems = [];
  machine = no_machine;
  problem = no_problem;
  served = false;
  inside = false;
  ended = record { machines = []; problems = [] };
}

abbrev pub has_machine : TablesData → Bool
has_machine tables = nat_lt 0 (length tables.machines)

-- the line may stand here
abbrev pub may_stand : TablesData → Form → Bool
may_stand tables (MachineLine name) = not tables.inside
may_stand tables (ProblemLine name) = has_machine tables && not tables.inside
may_stand tables (UnitsLine names) = has_machine tables && not tables.served
may_stand tables (FileLine name storage) = has_machine tables && not tables.served
may_stand tables (KindLine name latency alternatives) = has_machine tables && not tables.served
may_stand tables form = tables.inside

-- what lines say, by the numbers of names

abbrev pub value_of : MachineParts → ProblemParts → Placed → Number → Placed → Bool → Value
value_of machine problem maker lands stored out = record {
  maker = index_of problem.operation_names maker.bytes;
  lands = lands.value;
  out = out;
  file = index_of machine.file_names stored.bytes;
}

abbrev pub read_of : ProblemParts → Placed → Placed → Option Number → Option Number → Read
read_of problem reader value distance offset = record {
  value = index_of problem.value_names value.bytes;
  reader = index_of problem.operation_names reader.bytes;
  distance = number_or_0 distance;
  offset = number_or_0 offset;
}

abbrev pub order_of : ProblemParts → Placed → Placed → Integer → Number → Order
order_of problem from to delay distance = record {
  from = index_of problem.operation_names from.bytes;
  to = index_of problem.operation_names to.bytes;
  delay = unwrap_or delay.value (pos 0);
  distance = distance.value;
}

abbrev pub any_value : Value
any_value = record { maker = 0; lands = 0; out = false; file = 0 }

-- the value with a number, if there is one, is made before an operation
abbrev pub made_before : List Value → ℕ → ℕ → Bool
made_before values number reader = if nat_lt number (length values) then nat_lt (slice_index_or values number any_value).maker reader else true

-- faults

abbrev pub read_goes : ProblemParts → Read → Bool
read_goes problem reading = nat_lt 0 reading.distance || made_before problem.values reading.value reading.reader

abbrev pub order_goes : Order → Bool
order_goes order = nat_lt 0 order.distance || nat_lt order.from order.to

abbrev pub file_faults : MachineParts → (Wrong → Told) → Placed → Storage → List (Option Told)
file_faults machine told name storage = room_at told (length machine.file_names) MAX_FILES part.Files ∷ new machine.file_names name ∷ storage_fault storage ∷ []

-- without its alternatives
abbrev pub kind_faults : MachineParts → (Wrong → Told) → Placed → Number → List (Option Told)
kind_faults machine told name latency = room_at told (length machine.kind_names) MAX_KINDS part.Kinds ∷ new machine.kind_names name ∷ in_range 1 MAX_LATENCY latency ∷ []

abbrev pub op_faults : MachineParts → ProblemParts → (Wrong → Told) → Placed → Placed → List (Option Told)
op_faults machine problem told name kind =
    room_at told (length problem.operation_names) MAX_STATEMENTS part.Operations ∷ new problem.operation_names name ∷ known machine.kind_names part.Kinds kind ∷ []

abbrev pub value_faults : MachineParts → ProblemParts → (Wrong → Told) → Placed → Placed → Number → Placed → List (Option Told)
value_faults machine problem told name maker lands stored =
    room_at told (length problem.value_names) MAX_VALUES part.Values
    ∷ new problem.value_names name
    ∷ known problem.operation_names part.Operations maker
    ∷ in_range 0 MAX_LATENCY lands
    ∷ known machine.file_names part.Files stored
    ∷ []

abbrev pub read_faults : ProblemParts → (Wrong → Told) → Placed → Placed → Option Number → Option Number → List (Option Told)
read_faults problem told reader value distance offset =
    room_at told (length problem.reads) MAX_READS part.Reads
    ∷ known problem.operation_names part.Operations reader
    ∷ known problem.value_names part.Values value
    ∷ offset_fault MAX_DISTANCE distance
    ∷ offset_fault MAX_OFFSET offset
    ∷ unless (read_goes problem (read_of problem reader value distance offset)) (on_word value wrong.Backward)
    ∷ []

abbrev pub order_faults : ProblemParts → (Wrong → Told) → Placed → Placed → Integer → Number → List (Option Told)
order_faults problem told from to delay distance =
    room_at told (length problem.orders) MAX_ORDERS part.Edges
    ∷ known problem.operation_names part.Operations from
    ∷ known problem.operation_names part.Operations to
    ∷ delay_fault delay
    ∷ in_range 0 MAX_ORDER_DISTANCE distance
    ∷ unless (order_goes (order_of problem from to delay distance)) (on_word to wrong.Backward)
    ∷ []

-- what is wrong with what the words of a line mean, from left to right; a count that is too large is told on the keyword
abbrev pub form_fault : TablesData → (Wrong → Told) → Form → Option Told
form_fault tables told (MachineLine name) = new tables.machines name
form_fault tables told (UnitsLine names) = units_fault tables.machine.units names
form_fault tables told (FileLine name storage) = first_of (file_faults tables.machine told name storage)
form_fault tables told (KindLine name latency alternatives) =
    first_of (first_of (kind_faults tables.machine told name latency) ∷ alternatives_fault tables.machine.units 0 alternatives ∷ [])
form_fault tables told (ProblemLine name) = first_of (room_at told (length tables.problems) MAX_PROBLEMS part.Problems ∷ new tables.problems name ∷ [])
form_fault tables told (OpLine name kind) = first_of (op_faults tables.machine tables.problem told name kind)
form_fault tables told (ValueLine name maker lands stored out) = first_of (value_faults tables.machine tables.problem told name maker lands stored)
form_fault tables told (ReadLine reader value distance offset) = first_of (read_faults tables.problem told reader value distance offset)
form_fault tables told (EdgeLine from to delay distance) = first_of (order_faults tables.problem told from to delay distance)
form_fault tables told EndLine = unless (nat_lt 0 (length tables.problem.operation_names)) (told (wrong.Count part.Operations))

-- the first fault of a line
abbrev pub line_fault : TablesData → LineForm → Option Told
line_fault tables line = first_of (unless (may_stand tables line.form) (on_line line wrong.Place) ∷ form_fault tables (on_line line) line.form ∷ [])

-- a line without a fault is taken in

abbrev pub named_machine : List ℕ → MachineParts → MachineData
named_machine name machine = record {
  name = name;
  units = machine.units;
  files = machine.files;
  file_names = machine.file_names;
  kinds = machine.kinds;
  kind_names = machine.kind_names;
}

abbrev pub named_problem : List ℕ → ℕ → ProblemParts → ProblemData
named_problem name machine problem = record {
  name = name;
  machine = machine;
  operations = problem.operations;
  operation_names = problem.operation_names;
  values = problem.values;
  value_names = problem.value_names;
  reads = problem.reads;
  orders = problem.orders;
}

-- the machine under way, if there is one, has ended
abbrev pub with_machine_ended : TablesData → TablesData
with_machine_ended tables =
    if has_machine tables
    then record tables {
      machine = no_machine;
      ended = record tables.ended { machines = tables.ended.machines ++ named_machine (last_name tables.machines) tables.machine ∷ [] };
    }
    else tables

abbrev pub with_file : MachineParts → Placed → Storage → MachineParts
with_file machine name storage = record machine { files = machine.files ++ file_of storage ∷ []; file_names = machine.file_names ++ name.bytes ∷ [] }

abbrev pub with_kind : MachineParts → Placed → Number → List (List HoldForm) → MachineParts
with_kind machine name latency alternatives =
    record machine { kinds = machine.kinds ++ kind_of machine.units latency alternatives ∷ []; kind_names = machine.kind_names ++ name.bytes ∷ [] }

abbrev pub with_op : MachineParts → ProblemParts → Placed → Placed → ProblemParts
with_op machine problem name kind = record problem {
  operations = problem.operations ++ index_of machine.kind_names kind.bytes ∷ [];
  operation_names = problem.operation_names ++ name.bytes ∷ [];
}

abbrev pub with_value : ProblemParts → Placed → Value → ProblemParts
with_value problem name value = record problem { values = problem.values ++ value ∷ []; value_names = problem.value_names ++ name.bytes ∷ [] }

abbrev pub with_read : ProblemParts → Read → ProblemParts
with_read problem reading = record problem { reads = problem.reads ++ reading ∷ [] }

abbrev pub with_order : ProblemParts → Order → ProblemParts
with_order problem order = record problem { orders = problem.orders ++ order ∷ [] }

abbrev pub with_machine : TablesData → List ℕ → TablesData
with_machine tables name = record tables { machines = tables.machines ++ name ∷ []; served = false }

abbrev pub with_form : TablesData → Form → TablesData
with_form tables (MachineLine name) = with_machine (with_machine_ended tables) name.bytes
with_form tables (UnitsLine names) = record tables { machine = record tables.machine { units = tables.machine.units ++ bytes_of names } }
with_form tables (FileLine name storage) = record tables { machine = with_file tables.machine name storage }
with_form tables (KindLine name latency alternatives) = record tables { machine = with_kind tables.machine name latency alternatives }
with_form tables (ProblemLine name) = record tables { problems = tables.problems ++ name.bytes ∷ []; served = true; inside = true }
with_form tables (OpLine name kind) = record tables { problem = with_op tables.machine tables.problem name kind }
with_form tables (ValueLine name maker lands stored out) =
    record tables { problem = with_value tables.problem name (value_of tables.machine tables.problem maker lands stored out) }
with_form tables (ReadLine reader value distance offset) = record tables { problem = with_read tables.problem (read_of tables.problem reader value distance offset) }
with_form tables (EdgeLine from to delay distance) = record tables { problem = with_order tables.problem (order_of tables.problem from to delay distance) }
with_form tables EndLine = record tables {
  problem = no_problem;
  inside = false;
  ended = record tables.ended {
    problems = tables.ended.problems ++ named_problem (last_name tables.problems) (length tables.machines - 1) tables.problem ∷ [];
  };
}
