-- A kernel that overlaps the iterations of a loop does what the loop does one iteration after another: the passes, and the law.
use Rattle.std.specs.Prelude.{◌≡◌, ◌↔◌, ◌⊎◌, ℕ, pos, ◌+◌, ◌-◌, ◌*◌, ◌<◌, ◌≤◌, ◌+ℤ◌, ◌-ℤ◌, true, List, map, Some, None, slice_get}
use Rattle.machine_data.specs.declared.opcode.Opcode.{Opcode}
use Rattle.machine_data.specs.declared.opcode.Opcode.TheVariants.{Load}
use Rattle.loop_data.specs.declared.language.statement.Operand.TheVariants.{Value}
use Rattle.loop_data.specs.declared.language.statement.Place.{Place}
use Rattle.loop_data.specs.declared.language.statement.Statement.{Statement}
use Rattle.loop_data.specs.Loops.{LoopData}
use Rattle.loop_data.specs.Run.{HasShapeOf, MemoryData, IsMemory, cell_index, cell_of, initial_of, plain}
use Rattle.graph.specs.Dependences.{Uses, ComesFirst}
use Rattle.graph.specs.Promises.{issue_of}
use Rattle.graph.specs.Units.{opcodes_of}
use Rattle.kernel.specs.declared.kernels.operation.Operation.{Operation}
use Rattle.kernel.specs.declared.kernels.operation.Source.TheVariants.{Register}
use Rattle.kernel.specs.declared.kernels.parts.Parts.{Parts}
use Rattle.kernel.specs.Check.{IsWellFormed}
use Rattle.kernel.specs.Overlapped.{InRegister, InCell, Write, physical, last_landed, preloaded, is_issued, turn_of, writes_before, overlapped, value_or}
use Rattle.overlap.specs.Allotments.{AllotmentData, IsAllotment, Suits, allotted_number}
use Rattle.overlap.specs.Emission.{emitted}
use Rattle.loop_schedules.specs.Schedules.{ScheduleData, IsSchedule}
use Rattle.overlap.specs.Sequence.{state_before, write_of_instance, sequence_before}

-- a lawful schedule, a lawful allotment for its values, and a memory of its loop's shape
pub record Belong (schedule : ScheduleData) (allotment : AllotmentData) : Type 0 where
  pub scheduled : IsSchedule schedule
  pub allotted : IsAllotment allotment
  pub suits : Suits schedule allotment

pub record IsRun (schedule : ScheduleData) (allotment : AllotmentData) (memory : MemoryData) : Type 0 where
  pub belong : Belong schedule allotment
  pub is_memory : IsMemory memory
  pub shape : HasShapeOf schedule.problem.loop memory

-- the parts are well formed
abbrev pub KernelsAreWellFormed : Type 0
KernelsAreWellFormed = (schedule : ScheduleData) (allotment : AllotmentData) → Belong schedule allotment → IsWellFormed (emitted schedule allotment)

-- the issue times in iteration 0 and the alternatives of a kernel's operations
abbrev pub times_of : Parts → List ℕ
times_of parts = map (λ (o : Operation). o.stage * parts.ii + o.row) parts.operations

abbrev pub choices_of : Parts → List ℕ
choices_of parts = map (λ (o : Operation). o.alternative) parts.operations

-- their opcodes, and their latencies in cycles
abbrev pub opcodes_in : Parts → List Opcode
opcodes_in parts = map (λ (o : Operation). o.opcode) parts.operations

abbrev pub latencies_in : Parts → List ℕ
latencies_in parts = map (λ (o : Operation). o.latency) parts.operations

-- a kernel's operations are the statements of the schedule's loop, with the latencies, times and alternatives of the schedule
pub record KeepsSchedule (schedule : ScheduleData) (parts : Parts) : Type 0 where
  pub times : times_of parts ≡ schedule.times
  pub choices : choices_of parts ≡ schedule.choices
  pub opcodes : opcodes_in parts ≡ opcodes_of schedule.problem.loop
  pub latencies : latencies_in parts ≡ schedule.problem.graph.latencies

-- and so those of the kernel of a schedule give back the schedule
abbrev pub KernelsKeepSchedules : Type 0
KernelsKeepSchedules = (schedule : ScheduleData) (allotment : AllotmentData) → IsSchedule schedule
    → KeepsSchedule schedule (emitted schedule allotment)

-- (i) an operation is issued in just the cycles of its instances
abbrev pub InstancesAreIssuedOnce : Type 0
InstancesAreIssuedOnce = (schedule : ScheduleData) (allotment : AllotmentData) → Belong schedule allotment
    → (trip cycle op : ℕ) (o : Operation) → slice_get (emitted schedule allotment).operations op ≡ Some o
    → (is_issued (emitted schedule allotment) trip cycle o ≡ true)
    ↔ ((iteration : ℕ) × (iteration < trip) × (cycle ≡ issue_of schedule.ii schedule.times op iteration))

-- (ii) where an operation reads a value as it was `distance` iterations ago, that source is a register, and its name is, in the
-- turn of the operation's issue, the register of the instance that is to be read
abbrev pub NamesAreOfInstances : Type 0
NamesAreOfInstances = (schedule : ScheduleData) (allotment : AllotmentData) → Belong schedule allotment
    → (reader operand value distance iteration : ℕ) (s : Statement) (o : Operation)
    → slice_get schedule.problem.loop.statements reader ≡ Some s → slice_get s.operands operand ≡ Some (Value value distance)
    → slice_get (emitted schedule allotment).operations reader ≡ Some o
    → (name : ℕ) × (slice_get o.sources operand ≡ Some (Register name))
    × (physical allotment.registers name (pos (turn_of (emitted schedule allotment) (issue_of schedule.ii schedule.times reader iteration)))
    ≡ physical allotment.registers (allotted_number schedule.problem.loop allotment value) (pos iteration -ℤ pos distance))

-- and what landed there last, when the reader is issued, is that instance's write; where it is of an iteration before the first,
-- nothing has landed there, and the register's initial value is the instance's
abbrev pub RegistersHoldValues : Type 0
RegistersHoldValues = (schedule : ScheduleData) (allotment : AllotmentData) (memory : MemoryData) → IsRun schedule allotment memory
    → (value distance reader iteration : ℕ) (s : Statement) → Uses schedule.problem.loop reader value distance → iteration < memory.trip
    → slice_get schedule.problem.loop.statements value ≡ Some s
    → let cycle = issue_of schedule.ii schedule.times reader iteration in
    let register = physical allotment.registers (allotted_number schedule.problem.loop allotment value) (pos iteration -ℤ pos distance) in
    (distance ≤ iteration → last_landed (sequence_before schedule allotment memory cycle) (InRegister register) cycle
    ≡ write_of_instance schedule allotment memory.arrays value (iteration - distance) s)
    × (iteration < distance → (last_landed (sequence_before schedule allotment memory cycle) (InRegister register) cycle ≡ None)
    × (preloaded (emitted schedule allotment) register ≡ initial_of schedule.problem.loop value (distance - iteration)))

-- the store of an instance writes a cell in the plain run, and is the last of those before another instance that do
pub record IsLastStore (schedule : ScheduleData) (allotment : AllotmentData) (memory : MemoryData) (op iteration array index : ℕ) (write : Write) : Type 0 where
  pub store : ℕ
  pub stored_in : ℕ
  pub statement : Statement
  pub is_statement : slice_get schedule.problem.loop.statements store ≡ Some statement
  pub before : ComesFirst store stored_in op iteration
  pub is_write : write_of_instance schedule allotment memory.arrays store stored_in statement ≡ Some write
  pub same_cell : write.target ≡ InCell array index
  pub last : (other stored : ℕ) (s : Statement) (w : Write) → slice_get schedule.problem.loop.statements other ≡ Some s → ComesFirst other stored op iteration
      → write_of_instance schedule allotment memory.arrays other stored s ≡ Some w → w.target ≡ InCell array index
      → ((other ≡ store) × (stored ≡ stored_in)) ⊎ ComesFirst other stored store stored_in

-- (iii) what landed last on a cell, when a load of it is issued, is the store that is the last one before it in the plain run whose
-- guard isn't 0; and so the load reads what it reads in the plain run
abbrev pub LoadsFollowStores : Type 0
LoadsFollowStores = (schedule : ScheduleData) (allotment : AllotmentData) (memory : MemoryData) → IsRun schedule allotment memory
    → (op iteration : ℕ) (s : Statement) (place : Place) → slice_get schedule.problem.loop.statements op ≡ Some s → s.opcode ≡ Load → s.place ≡ Some place → iteration < memory.trip
    → let cycle = issue_of schedule.ii schedule.times op iteration in
    let cell = pos iteration +ℤ place.offset in
    ((write : Write) → (last_landed (sequence_before schedule allotment memory cycle) (InCell place.array (cell_index cell)) cycle ≡ Some write)
    ↔ IsLastStore schedule allotment memory op iteration place.array (cell_index cell) write)
    × (value_or (last_landed (sequence_before schedule allotment memory cycle) (InCell place.array (cell_index cell)) cycle) (cell_of memory.arrays place.array cell)
    ≡ cell_of (state_before schedule.problem.loop memory.arrays op iteration).arrays place.array cell)

-- (iv) the kernel makes the writes of the plain run's values, in every cycle
abbrev pub WritesAreOfValues : Type 0
WritesAreOfValues = (schedule : ScheduleData) (allotment : AllotmentData) (memory : MemoryData) → IsRun schedule allotment memory
    → (cycle : ℕ) → writes_before (emitted schedule allotment) memory cycle ≡ sequence_before schedule allotment memory cycle

-- (v) at the end
abbrev pub OverlapIsSequence : Type 0
OverlapIsSequence = (schedule : ScheduleData) (allotment : AllotmentData) (memory : MemoryData) → IsRun schedule allotment memory
    → overlapped (emitted schedule allotment) memory ≡ plain schedule.problem.loop memory

-- a kernel leaves of each memory of the loop's shape what the loop leaves of it
abbrev pub RunsAsLoop : Parts → LoopData → Type 0
RunsAsLoop parts loop = (memory : MemoryData) → IsMemory memory → HasShapeOf loop memory → overlapped parts memory ≡ plain loop memory
