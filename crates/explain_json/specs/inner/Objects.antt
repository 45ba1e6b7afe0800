-- Objects of what is there, and members that several objects have.
use Rattle.std.specs.Prelude.{ℕ, ◌-◌, ◌==◌, codes, List, [], ◌∷◌, length, slice_index}
use Rattle.serde_json.specs.Data.{Data, Members, boolean, string, array, object, member, no_members, put}
use Rattle.serde_json.specs.View.{items_of}
use Rattle.machine_data.specs.Machines.{MachineData}
use Rattle.edges.specs.Edges.{EdgeData}
use Rattle.walks.specs.Walks.{delay_of, distance_of}
use Rattle.graph_text.specs.Names.{op_name, opcode_word}
use Rattle.loop_schedules.specs.Problems.{ProblemData}
use Rattle.loop_schedules.specs.Schedules.{ScheduleData}
use Rattle.registers.specs.declared.lifetime.Lifetime.{Lifetime}
use Rattle.overlap.specs.Lifetimes.{lifetimes_of}
use Rattle.figures.specs.declared.figures.Figures.{Figures}
use Rattle.figures.specs.Slots.{used_units}
use Rattle.figures.specs.LiveCounts.{greatest_live, live_counts}
use Rattle.figures.specs.Slots.{percent_of}
use Rattle.explain_json.specs.Edges.{place_of}
use Rattle.explain_json.specs.Kernels.{figures_object, slots_of, values_value}
use Rattle.explain_json.specs.Parts.{array_of, count_value, counts_value, integer_value}
use Rattle.explain_json.specs.Units.{unit_name, users_of}

-- a unit that is used by so many rows
abbrev pub unit_object : MachineData → ProblemData → List ℕ → ℕ → ℕ → Data
unit_object machine problem choices unit uses =
    object (member (codes "full") (boolean (uses == problem.resources))
    (member (codes "name") (string (unit_name machine unit))
    (member (codes "users") (array (items_of (users_of problem choices unit)))
    (member (codes "uses") (count_value uses) no_members))))

-- a circuit that has edges
abbrev pub circuit_object : List EdgeData → ℕ → List EdgeData → Data
circuit_object edges bound circuit =
    object (member (codes "delay") (integer_value (delay_of circuit))
    (member (codes "distance") (count_value (distance_of circuit))
    (member (codes "edges") (array_of (λ edge. count_value (place_of edges edge)) circuit)
    (member (codes "needs") (count_value bound) no_members))))

-- the members of an operation, whether it is scheduled or not
unfoldable pub operation_members : ProblemData → List ℕ → ℕ → Members
operation_members problem heights op =
    member (codes "height") (count_value (slice_index heights op))
    (member (codes "latency") (count_value (slice_index problem.graph.latencies op))
    (member (codes "name") (string (op_name problem.loop op))
    (member (codes "opcode") (string (opcode_word problem.loop op)) no_members)))

-- an operation with by how many rows it uses a unit
abbrev pub user_object : ℕ → ℕ → Data
user_object op uses = object (member (codes "operation") (count_value op) (member (codes "uses") (count_value uses) no_members))

-- the slot of a row and of the unit of a place, which an operation takes
abbrev pub slot_object : ℕ → ℕ → ℕ → Data
slot_object row place op =
    object (member (codes "operation") (count_value op)
    (member (codes "row") (count_value row)
    (member (codes "unit") (count_value place) no_members)))

-- the members of an interval that gives no kernel, with operations and the word for why
abbrev pub failure_members : ℕ → List ℕ → List ℕ → Members
failure_members ii ops outcome =
    member (codes "interval") (count_value ii)
    (member (codes "operations") (counts_value ops)
    (member (codes "outcome") (string outcome) no_members))

-- those of one at which a value has no register
abbrev pub life_members : ℕ → Lifetime → Members
life_members ii life =
    member (codes "first") (count_value life.first)
    (member (codes "interval") (count_value ii)
    (member (codes "last") (count_value life.last)
    (member (codes "operations") (counts_value (life.operation ∷ []))
    (member (codes "outcome") (string (codes "registers")) no_members))))

-- the members of a kernel that tell of the units which operations take, with the figures of its schedule
unfoldable pub unit_members : MachineData → ScheduleData → Figures → ℕ → Members
unit_members machine schedule figures stages =
    let used = used_units machine schedule in
    member (codes "figures") (figures_object figures stages (array_of (λ unit. count_value (percent_of schedule unit)) used))
    (member (codes "idle_units") (count_value (length machine.units - length used))
    (member (codes "slots") (array (items_of (slots_of schedule used)))
    (member (codes "units") (array_of (λ unit. string (unit_name machine unit)) used) no_members)))

-- some members, and those that tell of the values and their registers
unfoldable pub with_values : Members → ScheduleData → List ℕ → Members
with_values ms schedule numbers =
    put (codes "values") (values_value (lifetimes_of schedule) numbers)
    (put (codes "max_live") (count_value (greatest_live schedule))
    (put (codes "live") (counts_value (live_counts schedule)) ms))
