-- The tables and what is read, as contracts see them.
use Rattle.std.specs.Prelude.{◌≡◌, map, Option, None, Some, Result, Ok, Err}
use Rattle.problem_tables.specs.Data.{MachineData, ProblemData, FileData, kind_seen}
use Rattle.problem_tables.specs.Tables.{MachineParts, ProblemParts, TablesData}
use Rattle.problem_tables.specs.declared.ended.Ended.{Ended}
use Rattle.problem_tables.specs.declared.ended.TextMachine.{TextMachine}
use Rattle.problem_tables.specs.declared.ended.TextProblem.{TextProblem}
use Rattle.problem_tables.specs.declared.fault.Refusal.{Refusal}
use Rattle.problem_tables.specs.declared.fault.Refusal.TheVariants.{Fault, Memory}
use Rattle.problem_tables.specs.declared.fault.Told.{Told}
use Rattle.problem_tables.specs.declared.lines.machine.MachineTables.{MachineTables}
use Rattle.problem_tables.specs.declared.lines.problem.ProblemTables.{ProblemTables}
use Rattle.problem_tables.specs.declared.tables.Tables.{Tables}

abbrev pub machine_seen : TextMachine → MachineData
machine_seen machine = record {
  name = machine.name;
  units = machine.units.items;
  files = machine.files.items;
  file_names = machine.file_names.items;
  kinds = map kind_seen machine.kinds.items;
  kind_names = machine.kind_names.items;
}

abbrev pub problem_seen : TextProblem → ProblemData
problem_seen problem = record {
  name = problem.name;
  machine = problem.machine;
  operations = problem.operations.items;
  operation_names = problem.operation_names.items;
  values = problem.values.items;
  value_names = problem.value_names.items;
  reads = problem.reads.items;
  orders = problem.orders.items;
}

abbrev pub ended_seen : Ended → FileData
ended_seen ended = record { machines = map machine_seen ended.machines.items; problems = map problem_seen ended.problems.items }

abbrev pub machine_parts : MachineTables → MachineParts
machine_parts machine = record {
  units = machine.units;
  files = machine.files.items;
  file_names = machine.file_names;
  kinds = map kind_seen machine.kinds.items;
  kind_names = machine.kind_names;
}

abbrev pub problem_parts : ProblemTables → ProblemParts
problem_parts problem = record {
  operations = problem.operations.items;
  operation_names = problem.operation_names;
  values = problem.values.items;
  value_names = problem.value_names;
  reads = problem.reads.items;
  orders = problem.orders.items;
}

abbrev pub tables_seen : Tables → TablesData
tables_seen tables = record {
  machines = tables.machines;
  problems = tables.problems.names;
  machine = machine_parts tables.machine;
  problem = problem_parts tables.problem;
  served = tables.served;
  inside = tables.problems.inside;
  ended = ended_seen tables.ended;
}

-- a line is refused just where it has this fault, unless memory runs out
abbrev pub Refuses : {A : Type 0} → Result A Refusal → Option Told → Type 0
Refuses (Ok done) fault = fault ≡ None
Refuses (Err (Fault told)) fault = fault ≡ Some told
Refuses (Err Memory) fault = Unit {0}
