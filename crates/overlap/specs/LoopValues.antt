-- The values of a loop and their uses as lists of values and reads, for which lifetimes are told without a loop.
use Rattle.std.specs.Prelude.{◌≡◌, ℕ, ◌+◌, ◌*◌, max, List, [], ◌∷◌, ◌++◌, map, slice_index}
use Rattle.registers.specs.declared.value.Value.{Value}
use Rattle.registers.specs.declared.value.Read.{Read}
use Rattle.registers.specs.Values.{lives_of}
use Rattle.loop_data.specs.Loops.{LoopData}
use Rattle.loop_schedules.specs.Schedules.{ScheduleData, stages_of}
use Rattle.overlap.specs.Lifetimes.{Use, values_of, uses_of, is_out, last_landing, lifetimes_of}

-- the value of a statement, which lands when the statement's latency has passed
abbrev pub value_of_loop : LoopData → List ℕ → ℕ → Value
value_of_loop loop latencies statement = record { maker = statement; lands = slice_index latencies statement; out = is_out loop statement }

-- the values of a loop, in text order
abbrev pub values_of_loop : LoopData → List ℕ → List Value
values_of_loop loop latencies = map (value_of_loop loop latencies) (values_of loop)

-- uses of the value with this number, each a read in the cycle of its reader's issue
abbrev pub reads_by : ℕ → List Use → List Read
reads_by number uses = map (λ (u : Use). record { value = number; reader = u.reader; distance = u.distance; offset = 0 }) uses

-- the uses of the values of these statements, which have the numbers from one on
abbrev pub reads_from : LoopData → ℕ → List ℕ → List Read
reads_from loop number [] = []
reads_from loop number (statement ∷ statements) = reads_by number (uses_of loop statement) ++ reads_from loop (number + 1) statements

-- the uses of a loop's values, by value
abbrev pub reads_of_loop : LoopData → List Read
reads_of_loop loop = reads_from loop 0 (values_of loop)

-- the cycle up to which the values that are live at the end have to last: the end of the last stage, and the last landing
abbrev pub end_of : ScheduleData → ℕ
end_of schedule = max (schedule.ii * stages_of schedule) (last_landing schedule)

-- law: the lifetimes of a scheduled loop are those of its list of values
abbrev pub LifetimesAreOfValues : Type 0
LifetimesAreOfValues = (schedule : ScheduleData) → lifetimes_of schedule
    ≡ lives_of schedule.ii schedule.times (end_of schedule) (values_of_loop schedule.problem.loop schedule.problem.graph.latencies) (reads_of_loop schedule.problem.loop)
