-- The kernel of a scheduled loop: its rows, stages and names.
use Rattle.std.specs.Prelude.{ℕ, zero, suc, pos, ◌+◌, ◌-◌, ◌%◌, ◌-ℤ◌, List, [], ◌∷◌, map, Option, None, Some, option_map, unwrap_or, flat_map, slice_index, slice_get}
use Rattle.loop_data.specs.declared.language.lists.Array.{Array}
use Rattle.loop_data.specs.declared.language.statement.Operand.{Operand}
use Rattle.loop_data.specs.declared.language.statement.Operand.TheVariants as operand
use Rattle.loop_data.specs.declared.language.statement.Place.{Place}
use Rattle.loop_data.specs.declared.language.statement.Statement.{Statement}
use Rattle.loop_data.specs.Loops.{LoopData}
use Rattle.loop_data.specs.Run.{initial_of}
use Rattle.kernel.specs.declared.kernels.operation.Address.{Address}
use Rattle.kernel.specs.declared.kernels.operation.Operation.{Operation}
use Rattle.kernel.specs.declared.kernels.operation.Source.{Source}
use Rattle.kernel.specs.declared.kernels.operation.Source.TheVariants.{Register, Parameter, Constant}
use Rattle.kernel.specs.declared.kernels.parts.Parts.{Parts}
use Rattle.kernel.specs.declared.kernels.parts.Preload.{Preload}
use Rattle.kernel.specs.declared.kernels.parts.Out.{Out}
use Rattle.overlap.specs.Allotments.{AllotmentData, allotted_number}
use Rattle.overlap.specs.Lifetimes.{carried, values_of}
use Rattle.loop_schedules.specs.Schedules.{ScheduleData, stage_of, row_of, stages_of}

-- the name, in an operation of a stage, of the register of a value as it was `distance` iterations ago
abbrev pub name_of : ScheduleData → AllotmentData → ℕ → ℕ → ℕ → ℕ
name_of schedule allotment value distance stage = (allotted_number schedule.problem.loop allotment value + distance + stage) % allotment.registers

abbrev pub source_of : ScheduleData → AllotmentData → ℕ → Operand → Source
source_of schedule allotment stage (operand.Constant value) = Constant value
source_of schedule allotment stage (operand.Parameter number) = Parameter number
source_of schedule allotment stage (operand.Value value distance) = Register (name_of schedule allotment value distance stage)

abbrev pub address_of : ℕ → Place → Address
address_of stage place = record { array = place.array; offset = place.offset -ℤ pos stage }

-- the operation of a statement
abbrev pub operation_of : ScheduleData → AllotmentData → ℕ → Statement → Operation
operation_of schedule allotment op s = record {
  row = row_of schedule op;
  stage = stage_of schedule op;
  opcode = s.opcode;
  latency = slice_index schedule.problem.graph.latencies op;
  alternative = slice_index schedule.choices op;
  destination = option_map (λ _. name_of schedule allotment op 0 (stage_of schedule op)) s.name;
  sources = map (source_of schedule allotment (stage_of schedule op)) s.operands;
  address = option_map (address_of (stage_of schedule op)) s.place;
}

-- the operations of the statements from this number on
abbrev pub operations_from : ScheduleData → AllotmentData → ℕ → List Statement → List Operation
operations_from schedule allotment op [] = []
operations_from schedule allotment op (s ∷ statements) =
    operation_of schedule allotment op s ∷ operations_from schedule allotment (op + 1) statements

-- initial values of a value, from that with the number `number` on, each in the register of that instance before the first
-- iteration; the last number is how many
abbrev pub preloads_from : ScheduleData → AllotmentData → ℕ → ℕ → ℕ → List Preload
preloads_from schedule allotment value number zero = []
preloads_from schedule allotment value number (suc n) =
    record { register = name_of schedule allotment value number 0; value = initial_of schedule.problem.loop value number }
    ∷ preloads_from schedule allotment value (number + 1) n

-- by value in text order, then by number
abbrev pub preloads_of : ScheduleData → AllotmentData → List Preload
preloads_of schedule allotment =
    flat_map (λ value. preloads_from schedule allotment value 1 (carried schedule.problem.loop value)) (values_of schedule.problem.loop)

-- a value's name
abbrev pub name_in : Option Statement → List ℕ
name_in None = []
name_in (Some s) = unwrap_or s.name []

abbrev pub name_of_value : LoopData → ℕ → List ℕ
name_of_value loop value = name_in (slice_get loop.statements value)

-- a value that is live at the end, with its register's name in the last turn
abbrev pub out_of : ScheduleData → AllotmentData → ℕ → Out
out_of schedule allotment value = record {
  name = name_of_value schedule.problem.loop value;
  register = name_of schedule allotment value 0 (stages_of schedule - 1);
}

-- the parts of the kernel of a schedule and an allotment
unfoldable pub emitted : ScheduleData → AllotmentData → Parts
emitted schedule allotment = record {
  ii = schedule.ii;
  stages = stages_of schedule;
  registers = allotment.registers;
  params = schedule.problem.loop.params;
  arrays = map (λ (a : Array). a.name) schedule.problem.loop.arrays;
  operations = operations_from schedule allotment 0 schedule.problem.loop.statements;
  preloads = preloads_of schedule allotment;
  outs = map (out_of schedule allotment) schedule.problem.loop.outs;
}
