-- The lines of operations.
use Rattle.std.specs.Prelude.{ℕ, codes, List, ◌++◌, slice_index}
use Rattle.std.specs.List.{flat_map}
use Rattle.loop_data.specs.Loops.{LoopData}
use Rattle.graph_marks.specs.Nodes.{place_text}
use Rattle.graph_text.specs.Names.{op_name, opcode_word}
use Rattle.lower_bounds.specs.Texts.{numbers_of}
use Rattle.loop_schedules.specs.Schedules.{ScheduleData}
use Rattle.writing.specs.Words.{told}

-- `  K [label="NAME OPCODE`
abbrev pub node_start : LoopData → ℕ → List ℕ
node_start loop number = ((told (codes "  ") number ++ codes " [label=\"") ++ op_name loop number) ++ (codes " " ++ opcode_word loop number)

-- that, and where the operation stands in a schedule, with a line feed
abbrev pub placed_line : LoopData → ℕ → ℕ → ℕ → List ℕ
placed_line loop ii time number = node_start loop number ++ place_text ii time

-- the lines of the operations of a schedule, in order
abbrev pub placed_lines : ScheduleData → List ℕ
placed_lines schedule =
    flat_map (λ number. placed_line schedule.problem.loop schedule.ii (slice_index schedule.times number) number) (numbers_of schedule.problem.loop)
