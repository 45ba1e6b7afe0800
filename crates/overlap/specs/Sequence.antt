-- The writes that the instances of a scheduled loop make of the values of the plain run.
use Rattle.std.specs.Prelude.{ℕ, zero, suc, ℤ, pos, ◌+◌, ◌-◌, ◌/◌, ◌%◌, ◌+ℤ◌, ◌&&◌, ◌==◌, nat_le, nat_lt, if◌then◌else◌, List, [], ◌∷◌, ◌++◌, Option, Some, None, slice_index}
use Rattle.std.specs.List.{cons_option}
use Rattle.machine_data.specs.declared.opcode.Opcode.{Opcode}
use Rattle.machine_data.specs.declared.opcode.Opcode.TheVariants.{Store}
use Rattle.loop_data.specs.declared.language.statement.Place.{Place}
use Rattle.loop_data.specs.declared.language.statement.Statement.{Statement}
pub use Rattle.loop_data.specs.Instances.{read_by, given_by}
unfoldable pub use Rattle.loop_data.specs.Instances.{state_before}
use Rattle.loop_data.specs.Run.{MemoryData, writes, first_of, cell_index}
use Rattle.graph.specs.Promises.{issue_of}
use Rattle.kernel.specs.Overlapped.{Write, InRegister, InCell, physical}
use Rattle.overlap.specs.Allotments.{AllotmentData, allotted_number}
use Rattle.loop_schedules.specs.Schedules.{ScheduleData, stage_of, row_of}

-- the write of an instance

abbrev pub stored_by : ScheduleData → List (List ℤ) → ℕ → ℕ → Statement → Option Place → Option Write
stored_by schedule arrays op iteration s None = None
stored_by schedule arrays op iteration s (Some place) =
    if writes (read_by schedule.problem.loop arrays op iteration s)
    then Some (record {
      target = InCell place.array (cell_index (pos iteration +ℤ place.offset));
      value = first_of (read_by schedule.problem.loop arrays op iteration s);
      start = issue_of schedule.ii schedule.times op iteration + slice_index schedule.problem.graph.latencies op;
    })
    else None

abbrev pub made_by : ScheduleData → AllotmentData → List (List ℤ) → ℕ → ℕ → Statement → Option Write
made_by schedule allotment arrays op iteration s = Some (record {
  target = InRegister (physical allotment.registers (allotted_number schedule.problem.loop allotment op) (pos iteration));
  value = given_by schedule.problem.loop arrays op iteration s;
  start = issue_of schedule.ii schedule.times op iteration + slice_index schedule.problem.graph.latencies op;
})

abbrev pub write_by_opcode : ScheduleData → AllotmentData → List (List ℤ) → ℕ → ℕ → Opcode → Statement → Option Write
write_by_opcode schedule allotment arrays op iteration Store s = stored_by schedule arrays op iteration s s.place
write_by_opcode schedule allotment arrays op iteration opcode s = made_by schedule allotment arrays op iteration s

-- the write that an instance makes of the values of the plain run; none of a store whose guard is 0
unfoldable pub write_of_instance : ScheduleData → AllotmentData → List (List ℤ) → ℕ → ℕ → Statement → Option Write
write_of_instance schedule allotment arrays op iteration s = write_by_opcode schedule allotment arrays op iteration s.opcode s

-- the writes of the instances that are issued in a cycle

abbrev pub write_now : ScheduleData → AllotmentData → MemoryData → ℕ → ℕ → Statement → Option Write
write_now schedule allotment memory cycle op s =
    if (cycle % schedule.ii == row_of schedule op) && nat_le (stage_of schedule op) (cycle / schedule.ii) && nat_lt (cycle / schedule.ii) (stage_of schedule op + memory.trip)
    then write_of_instance schedule allotment memory.arrays op (cycle / schedule.ii - stage_of schedule op) s
    else None

abbrev pub sequence_in : ScheduleData → AllotmentData → MemoryData → ℕ → ℕ → List Statement → List Write
sequence_in schedule allotment memory cycle op [] = []
sequence_in schedule allotment memory cycle op (s ∷ statements) =
    cons_option (write_now schedule allotment memory cycle op s) (sequence_in schedule allotment memory cycle (op + 1) statements)

-- and before a cycle
abbrev pub sequence_before : ScheduleData → AllotmentData → MemoryData → ℕ → List Write
sequence_before schedule allotment memory zero = []
sequence_before schedule allotment memory (suc cycle) =
    sequence_before schedule allotment memory cycle ++ sequence_in schedule allotment memory cycle 0 schedule.problem.loop.statements
