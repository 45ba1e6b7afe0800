-- The operations of a solution as JSON.
use Rattle.std.specs.Prelude.{ℕ, ◌%◌, ◌==◌, if◌then◌else◌, codes, List, length, Option, None, slice_index}
use Rattle.std.specs.List.{filter_map, range_with_len}
use Rattle.serde_json.specs.Data.{Data, string, object, member, no_members}
use Rattle.machine_data.specs.declared.alternative.Row.{Row}
use Rattle.mrt.specs.Placements.{rows_of}
use Rattle.schedules.specs.Schedules.{stage_of}
use Rattle.registers.specs.declared.value.Read.{Read}
use Rattle.instances.specs.Runs.{value_of}
use Rattle.problems.specs.declared.draft.Draft.{Draft}
use Rattle.solutions.specs.Runs.{run_of}
use Rattle.solutions.specs.Solutions.{SolutionData, schedule_of}
use Rattle.solution_text.specs.declared.named.Register.{Register}
use Rattle.solution_text.specs.Names.{op_name, unit_name}
use Rattle.solution_text.specs.Registers.{destination_of, source_of}
use Rattle.solution_json.specs.Parts.{array_of, count_value, register_object}

-- a unit that an operation holds, and how many cycles after its issue
abbrev pub hold_object : Draft → Row → Data
hold_object draft row =
    object (member (codes "offset") (count_value row.offset)
    (member (codes "unit") (string (unit_name draft row.unit)) no_members))

-- the units that an operation holds
abbrev pub holds_array : SolutionData → ℕ → Data
holds_array s op = array_of (hold_object s.problem.draft) (rows_of s.problem.scheduling.operations op (slice_index s.choices op))

-- the register that a read of the operation finds its value in; none of a read of another one
abbrev pub read_register : SolutionData → ℕ → Read → Option Register
read_register s op reading = if reading.reader == op then source_of s reading else None

-- the registers that the operation reads, in the order of its reads
abbrev pub registers_read : SolutionData → ℕ → List Register
registers_read s op = filter_map (read_register s op) s.problem.draft.reads.items

-- the register that the operation puts a value into; none of a value of another one
abbrev pub write_register : SolutionData → ℕ → ℕ → Option Register
write_register s op value = if (value_of (run_of s) value).maker == op then destination_of s value else None

-- the registers that the operation writes, in the order of the values
abbrev pub registers_written : SolutionData → ℕ → List Register
registers_written s op = filter_map (write_register s op) (range_with_len 0 (length s.problem.draft.values.items))

-- an operation: when and by which alternative it is issued in iteration 0, in which cycle of the interval, and how many intervals after
-- its iteration's beginning; the units that it holds; and the registers that it reads and writes
unfoldable pub operation_object : SolutionData → ℕ → Data
operation_object s op =
    object (member (codes "alternative") (count_value (slice_index s.choices op))
    (member (codes "holds") (holds_array s op)
    (member (codes "name") (string (op_name s.problem.draft op))
    (member (codes "reads") (array_of (register_object s.problem.draft) (registers_read s op))
    (member (codes "row") (count_value (slice_index s.times op % s.ii))
    (member (codes "stage") (count_value (stage_of (schedule_of s) op))
    (member (codes "time") (count_value (slice_index s.times op))
    (member (codes "writes") (array_of (register_object s.problem.draft) (registers_written s op)) no_members))))))))
