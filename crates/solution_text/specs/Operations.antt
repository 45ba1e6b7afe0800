-- The lines of the operations of a solution.
use Rattle.std.specs.Prelude.{ℕ, ◌%◌, ◌==◌, if◌then◌else◌, codes, List, [], ◌∷◌, ◌++◌, length, slice_index}
use Rattle.std.specs.List.{flat_map, range_with_len}
use Rattle.machine_data.specs.declared.alternative.Row.{Row}
use Rattle.mrt.specs.Placements.{rows_of}
use Rattle.schedules.specs.Schedules.{stage_of}
use Rattle.registers.specs.declared.value.Read.{Read}
use Rattle.instances.specs.Runs.{value_of}
use Rattle.problems.specs.declared.draft.Draft.{Draft}
use Rattle.solutions.specs.Runs.{run_of}
use Rattle.solutions.specs.Solutions.{SolutionData, schedule_of}
use Rattle.writing.specs.Words.{at, told}
use Rattle.solution_text.specs.Names.{op_name, unit_name}
use Rattle.solution_text.specs.Registers.{destination_of, source_of, spaced_register}

-- `op NAME time T by N`: when the operation is issued in iteration 0, and by which alternative
abbrev pub placed_text : SolutionData → ℕ → List ℕ
placed_text s op =
    ((codes "op " ++ op_name s.problem.draft op) ++ told (codes " time ") (slice_index s.times op)) ++ told (codes " by ") (slice_index s.choices op)

-- ` UNIT`, or ` UNIT@OFFSET` where it is held OFFSET cycles after the issue
abbrev pub hold_text : Draft → Row → List ℕ
hold_text draft row = codes " " ++ at (unit_name draft row.unit) row.offset

-- ` # row R stage G: UNIT UNIT@OFFSET ..`: the cycle of the interval in which the operation is issued, how many intervals after its
-- iteration's beginning, and the units that it holds
abbrev pub slot_text : SolutionData → ℕ → List ℕ
slot_text s op =
    ((told (codes " # row ") (slice_index s.times op % s.ii) ++ told (codes " stage ") (stage_of (schedule_of s) op)) ++ codes ":")
    ++ flat_map (hold_text s.problem.draft) (rows_of s.problem.scheduling.operations op (slice_index s.choices op))

-- the register that a read of the operation finds its value in; nothing of a read of another one
abbrev pub read_text : SolutionData → ℕ → Read → List ℕ
read_text s op reading = if reading.reader == op then spaced_register s.problem.draft (source_of s reading) else []

-- the registers that the operation reads, in the order of its reads
abbrev pub reads_text : SolutionData → ℕ → List ℕ
reads_text s op = flat_map (read_text s op) s.problem.draft.reads.items

-- the register that the operation puts a value into; nothing of a value of another one
abbrev pub write_text : SolutionData → ℕ → ℕ → List ℕ
write_text s op value = if (value_of (run_of s) value).maker == op then spaced_register s.problem.draft (destination_of s value) else []

-- the registers that the operation writes, in the order of the values
abbrev pub writes_text : SolutionData → ℕ → List ℕ
writes_text s op = flat_map (write_text s op) (range_with_len 0 (length s.problem.draft.values.items))

-- a text after its head, and nothing where there is none
abbrev pub headed : List ℕ → List ℕ → List ℕ
headed head [] = []
headed head (byte ∷ bytes) = head ++ byte ∷ bytes

-- how the registers that are written begin, after those that are read
abbrev pub writes_head : List ℕ → List ℕ
writes_head [] = codes "; writes"
writes_head (byte ∷ bytes) = codes ", writes"

-- `; reads FILE.K .., writes FILE.K ..`, without the part that has no register
abbrev pub uses_text : SolutionData → ℕ → List ℕ
uses_text s op = headed (codes "; reads") (reads_text s op) ++ headed (writes_head (reads_text s op)) (writes_text s op)

-- the line of an operation
unfoldable pub op_line : SolutionData → ℕ → List ℕ
op_line s op = ((placed_text s op ++ slot_text s op) ++ uses_text s op) ++ codes "\n"

-- the lines of all operations, in order
abbrev pub op_lines : SolutionData → List ℕ
op_lines s = flat_map (op_line s) (range_with_len 0 (length s.problem.scheduling.operations))
