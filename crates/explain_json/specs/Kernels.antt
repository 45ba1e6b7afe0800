-- The kernel of a loop with its schedule and its registers, as JSON.
use Rattle.std.specs.Prelude.{ℕ, ◌-◌, codes, List, [], ◌∷◌, length, Bool, Option, Some, None, slice_index}
use Rattle.std.specs.List.{flat_map, range_with_len, slice_index_or}
use Rattle.serde_json.specs.Data.{Data, boolean, string, array, object, member, no_members}
use Rattle.serde_json.specs.View.{items_of}
use Rattle.machine_data.specs.Machines.{MachineData}
use Rattle.loop_schedules.specs.Problems.{ProblemData}
use Rattle.loop_schedules.specs.Schedules.{ScheduleData}
use Rattle.registers.specs.declared.lifetime.Lifetime.{Lifetime}
use Rattle.registers.specs.Crowds.{nobody}
use Rattle.overlap.specs.Lifetimes.{lifetimes_of}
use Rattle.figures.specs.declared.figures.Figures.{Figures}
use Rattle.told_intervals.specs.declared.evidence.Met.{Met}
use Rattle.figures.specs.LiveCounts.{greatest_live, live_counts}
use Rattle.figures.specs.Slots.{percent_of, rows_in, slot_taker, used_units}
use Rattle.told_choices.specs.declared.why.Why.{Why}
use Rattle.told_choices.specs.Holds.{hold_by, hold_word}
use Rattle.told_choices.specs.Least.{is_least_possible}
use Rattle.unit_sets.specs.declared.fullest.UnitSet.{UnitSet}
use Rattle.explain_json.specs.Parts.{array_of, count_value, counts_value, need_value}
use Rattle.explain_json.specs.Units.{unit_name}

-- the slot of a row and of the unit of this place, if an operation takes it
abbrev pub slot_objects : ℕ → ℕ → Option ℕ → List Data
slot_objects row place None = []
slot_objects row place (Some op) =
    object (member (codes "operation") (count_value op)
    (member (codes "row") (count_value row)
    (member (codes "unit") (count_value place) no_members))) ∷ []

-- the slots of a row that are taken; a unit is told by its place among those that operations take
abbrev pub row_slots : ScheduleData → List ℕ → ℕ → List Data
row_slots schedule used row =
    flat_map (λ place. slot_objects row place (slot_taker schedule (slice_index used place) row)) (range_with_len 0 (length used))

-- all slots that are taken, row by row
abbrev pub slots_of : ScheduleData → List ℕ → List Data
slots_of schedule used = flat_map (row_slots schedule used) (rows_in schedule)

-- a value: when it lives in iteration 0, the operation that makes it, and its register
abbrev pub value_object : Lifetime → ℕ → Data
value_object life number =
    object (member (codes "first") (count_value life.first)
    (member (codes "last") (count_value life.last)
    (member (codes "operation") (count_value life.operation)
    (member (codes "register") (count_value number) no_members))))

-- all values, each with the number at its place
abbrev pub values_value : List Lifetime → List ℕ → Data
values_value lives numbers = array_of (λ k. value_object (slice_index_or lives k nobody) (slice_index numbers k)) (range_with_len 0 (length lives))

-- the figures of a schedule that has so many stages, with in how many hundredths of the interval each unit is taken
abbrev pub figures_object : Figures → ℕ → Data → Data
figures_object figures stages percents =
    object (member (codes "cycles") (count_value figures.cycles)
    (member (codes "extra_turns") (count_value (stages - 1))
    (member (codes "need") (need_value figures.need)
    (member (codes "percent") percents no_members))))

-- the kernel of an interval, with the figures of its schedule: free tells that no circuit needs the recurrence-constrained bound, and the
-- reasons are those of the intervals before
abbrev pub kernel_object : MachineData → UnitSet → Bool → ProblemData → List Why → ℕ → Met → Figures → Data
kernel_object machine set free problem reasons ii met figures =
    let used = used_units machine met.schedule in
    object (member (codes "figures") (figures_object figures met.kernel.stages (array_of (λ unit. count_value (percent_of met.schedule unit)) used))
    (member (codes "held_by") (string (hold_word (hold_by problem free reasons)))
    (member (codes "idle_units") (count_value (length machine.units - length used))
    (member (codes "ii") (count_value ii)
    (member (codes "least_possible") (boolean (is_least_possible problem set.need ii))
    (member (codes "live") (counts_value (live_counts met.schedule))
    (member (codes "max_live") (count_value (greatest_live met.schedule))
    (member (codes "registers") (count_value problem.registers)
    (member (codes "slots") (array (items_of (slots_of met.schedule used)))
    (member (codes "stages") (count_value met.kernel.stages)
    (member (codes "units") (array_of (λ unit. string (unit_name machine unit)) used)
    (member (codes "values") (values_value (lifetimes_of met.schedule) met.allotment.numbers) no_members))))))))))))
