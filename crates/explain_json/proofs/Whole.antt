-- What is told of a loop has whole numbers alone.
use Rattle.std.proofs.Common.{◌≡◌, ℕ, zero, suc, ◌+◌, ◌==◌, ℤ, pos, negsuc, Bool, false, ◌||◌, List, [], ◌∷◌, ◌++◌, length, map, Option, Some, None, refl, ap₂, ap, ◌∙◌}
use Rattle.std.specs.Prelude.{filter, slice_index}
use Rattle.std.specs.List.{AllZip, flat_map, range_with_len, slice_index_or}
use Rattle.serde_json.specs.Data.{Data, string}
use Rattle.serde_json.specs.View.{items_of}
use Rattle.serde_json.specs.Written.{has_float, items_have_float}
use Rattle.machine_data.specs.Machines.{MachineData}
use Rattle.loop_data.specs.Loops.{LoopData}
use Rattle.edges.specs.Edges.{EdgeData}
use Rattle.walks.specs.Walks.{delay_of}
use Rattle.loop_schedules.specs.Problems.{ProblemData, mii_of}
use Rattle.loop_schedules.specs.Schedules.{ScheduleData}
use Rattle.modulo.specs.declared.outcome.attempts.Culprit.TheVariants.{Blocked, Unplaced, Late}
use Rattle.registers.specs.declared.lifetime.Lifetime.{Lifetime}
use Rattle.registers.specs.Crowds.{nobody}
use Rattle.overlap.specs.Lifetimes.{lifetimes_of}
use Rattle.figures.specs.declared.figures.Figures.{Figures}
use Rattle.told_intervals.specs.declared.evidence.Met as evidence
use Rattle.told_choices.specs.declared.why.Why.{Why}
use Rattle.told_choices.specs.declared.why.Why.TheVariants.{Attempt, Register, Need}
use Rattle.figures.specs.LiveCounts.{live_counts}
use Rattle.figures.specs.Slots.{percent_of, rows_in, slot_taker, used_units}
use Rattle.told_choices.specs.declared.chosen.Chosen.{Chosen}
use Rattle.told_choices.specs.declared.chosen.Chosen.TheVariants.{Met, Failed}
use Rattle.unit_sets.specs.declared.fullest.UnitSet.{UnitSet}
use Rattle.unit_sets.specs.Fullest.{units_in}
use Rattle.unit_sets.specs.Sets.{is_in}
use Rattle.explain_json.specs.Edges.{IsEdgeObject, circuit_value, place_of}
use Rattle.explain_json.specs.Kernels.{kernel_object, row_slots, slot_objects, slots_of, value_object, values_value}
use Rattle.explain_json.specs.Loops.{Given, members_of, object_of, object_with}
use Rattle.explain_json.specs.Operations.{operation_object, operations_value, placed_object}
use Rattle.explain_json.specs.Parts.{array_of, count_value, counts_value, integer_value, need_value}
use Rattle.explain_json.specs.Tries.{chosen_try, failure_object, failures_from}
use Rattle.explain_json.specs.Units.{operations_in, set_object, unit_name, unit_objects, units_of, units_value, use_by, user_objects, users_of, uses_of}

-- a value, or each of some, has whole numbers alone
abbrev IsWhole : Data → Type 0
IsWhole d = has_float d ≡ false

abbrev AreWhole : List Data → Type 0
AreWhole [] = Unit {0}
AreWhole (d ∷ ds) = IsWhole d × AreWhole ds

neither : (a b : Bool) → a ≡ false → b ≡ false → (a || b) ≡ false
neither a b p q = ap₂ (λ (x y : Bool). x || y) p q

items-whole : (ds : List Data) → AreWhole ds → items_have_float (items_of ds) ≡ false
items-whole [] each = refl
items-whole (d ∷ ds) each = neither _ _ each.0 (items-whole ds each.1)

each-whole : {A : Type 0} (value : A → Data) (list : List A) → ((x : A) → IsWhole (value x)) → AreWhole (map value list)
each-whole value [] each = tt
each-whole value (x ∷ xs) each = (each x, each-whole value xs each)

array-whole : {A : Type 0} (value : A → Data) (list : List A) → ((x : A) → IsWhole (value x)) → IsWhole (array_of value list)
array-whole value list each = items-whole (map value list) (each-whole value list each)

append-whole : (ds es : List Data) → AreWhole ds → AreWhole es → AreWhole (ds ++ es)
append-whole [] es p q = q
append-whole (d ∷ ds) es p q = (p.0, append-whole ds es p.1 q)

several-whole : (f : ℕ → List Data) (ns : List ℕ) → ((n : ℕ) → AreWhole (f n)) → AreWhole (flat_map f ns)
several-whole f [] each = tt
several-whole f (n ∷ ns) each = append-whole (f n) (flat_map f ns) (each n) (several-whole f ns each)

integer-whole : (z : ℤ) → IsWhole (integer_value z)
integer-whole (pos n) = refl
integer-whole (negsuc n) = refl

need-whole : (need : Option ℕ) → IsWhole (need_value need)
need-whole (Some n) = refl
need-whole None = refl

counts-whole : (ns : List ℕ) → IsWhole (counts_value ns)
counts-whole ns = array-whole count_value ns (λ _. refl)

edges-whole : (loop : LoopData) (latencies : List ℕ) (edges : List EdgeData) (objects : List Data) → AllZip (IsEdgeObject loop latencies) edges objects → AreWhole objects
edges-whole loop latencies [] [] are = tt
edges-whole loop latencies [] (d ∷ ds) are = absurd are
edges-whole loop latencies (e ∷ es) [] are = absurd are
edges-whole loop latencies (e ∷ es) (d ∷ ds) are = (ap has_float are.0.2 ∙ neither _ _ (integer-whole e.delay) refl, edges-whole loop latencies es ds are.1)

circuit-whole : (edges : List EdgeData) (bound : ℕ) (circuit : List EdgeData) → IsWhole (circuit_value edges bound circuit)
circuit-whole edges bound [] = refl
circuit-whole edges bound (e ∷ circuit) =
    neither _ _ (integer-whole (delay_of (e ∷ circuit))) (neither _ _ (array-whole (λ edge. count_value (place_of edges edge)) (e ∷ circuit) (λ _. refl)) refl)

names-whole : (machine : MachineData) (units : List ℕ) → IsWhole (array_of (λ unit. string (unit_name machine unit)) units)
names-whole machine units = array-whole (λ unit. string (unit_name machine unit)) units (λ _. refl)

set-whole : (machine : MachineData) (set : UnitSet) → IsWhole (set_object machine set)
set-whole machine set = neither _ _ (names-whole machine (filter (is_in (units_in set.units)) (units_of machine))) refl

user-whole : (op uses : ℕ) → AreWhole (user_objects op uses)
user-whole op zero = tt
user-whole op (suc n) = (refl, tt)

users-whole : (p : ProblemData) (choices : List ℕ) (unit : ℕ) → AreWhole (users_of p choices unit)
users-whole p choices unit = several-whole (λ op. user_objects op (use_by p choices unit op)) (operations_in p) (λ op. user-whole op (use_by p choices unit op))

unit-whole : (machine : MachineData) (p : ProblemData) (choices : List ℕ) (unit uses : ℕ) → AreWhole (unit_objects machine p choices unit uses)
unit-whole machine p choices unit zero = tt
unit-whole machine p choices unit (suc n) = (neither _ _ (items-whole (users_of p choices unit) (users-whole p choices unit)) refl, tt)

units-whole : (machine : MachineData) (p : ProblemData) (choices : List ℕ) → IsWhole (units_value machine p choices)
units-whole machine p choices =
    items-whole _ (several-whole (λ unit. unit_objects machine p choices unit (uses_of p choices unit)) (units_of machine)
    (λ unit. unit-whole machine p choices unit (uses_of p choices unit)))

failure-whole : (ii : ℕ) (reason : Why) → IsWhole (failure_object ii reason)
failure-whole ii (Attempt (Blocked op)) = refl
failure-whole ii (Attempt (Unplaced ops)) = neither _ _ (counts-whole ops.items) refl
failure-whole ii (Attempt (Late op time)) = refl
failure-whole ii (Register life) = refl
failure-whole ii (Need life need) = neither _ _ (need-whole need) refl

failures-whole : (ii : ℕ) (reasons : List Why) → AreWhole (failures_from ii reasons)
failures-whole ii [] = tt
failures-whole ii (reason ∷ reasons) = (failure-whole ii reason, failures-whole (ii + 1) reasons)

chosen-whole : (chosen : Chosen) → AreWhole (chosen_try chosen)
chosen-whole (Met ii met figures) = (refl, tt)
chosen-whole (Failed cause) = tt

operations-whole : (p : ProblemData) (heights : List ℕ) (chosen : Chosen) → IsWhole (operations_value p heights chosen)
operations-whole p heights (Met ii met figures) = array-whole (placed_object p heights met.schedule figures.slacks.items) (operations_in p) (λ _. refl)
operations-whole p heights (Failed cause) = array-whole (operation_object p heights) (operations_in p) (λ _. refl)

slot-whole : (row place : ℕ) (taker : Option ℕ) → AreWhole (slot_objects row place taker)
slot-whole row place None = tt
slot-whole row place (Some op) = (refl, tt)

slots-whole : (s : ScheduleData) (used : List ℕ) → AreWhole (slots_of s used)
slots-whole s used =
    several-whole (row_slots s used) (rows_in s)
    (λ row. several-whole (λ place. slot_objects row place (slot_taker s (slice_index used place) row)) (range_with_len 0 (length used))
    (λ place. slot-whole row place (slot_taker s (slice_index used place) row)))

values-whole : (lives : List Lifetime) (numbers : List ℕ) → IsWhole (values_value lives numbers)
values-whole lives numbers = array-whole (λ k. value_object (slice_index_or lives k nobody) (slice_index numbers k)) (range_with_len 0 (length lives)) (λ _. refl)

kernel-whole : (machine : MachineData) (set : UnitSet) (free : Bool) (p : ProblemData) (reasons : List Why) (ii : ℕ) (met : evidence.Met) (figures : Figures)
    → IsWhole (kernel_object machine set free p reasons ii met figures)
kernel-whole machine set free p reasons ii met figures =
    let used = used_units machine met.schedule in
    neither _ _ (neither _ _ (need-whole figures.need) (neither _ _ (array-whole (λ unit. count_value (percent_of met.schedule unit)) used (λ _. refl)) refl))
    (neither _ _ (counts-whole (live_counts met.schedule))
    (neither _ _ (items-whole (slots_of met.schedule used) (slots-whole met.schedule used))
    (neither _ _ (names-whole machine used) (neither _ _ (values-whole (lifetimes_of met.schedule) met.allotment.numbers) refl))))

with-whole : (given : Given) (heights : List ℕ) (edges : List Data) (chosen : Chosen) → AreWhole edges
    → IsWhole (object_with given.machine given.set (length given.circuit == 0) given.problem given.told.reasons.items (members_of given heights edges chosen) chosen)
with-whole given heights edges (Met ii met figures) whole =
    neither _ _ (circuit-whole given.problem.graph.edges given.problem.recurrences given.circuit)
    (neither _ _ (items-whole edges whole)
    (neither _ _ (kernel-whole given.machine given.set (length given.circuit == 0) given.problem given.told.reasons.items ii met figures)
    (neither _ _ (operations-whole given.problem heights (Met ii met figures))
    (neither _ _ (set-whole given.machine given.set)
    (neither _ _ (items-whole _ (append-whole (failures_from (mii_of given.problem) given.told.reasons.items) (chosen_try given.told.chosen)
    (failures-whole (mii_of given.problem) given.told.reasons.items) (chosen-whole given.told.chosen)))
    (neither _ _ (units-whole given.machine given.problem given.alternatives) refl))))))
with-whole given heights edges (Failed cause) whole =
    neither _ _ (circuit-whole given.problem.graph.edges given.problem.recurrences given.circuit)
    (neither _ _ (items-whole edges whole)
    (neither _ _ (operations-whole given.problem heights (Failed cause))
    (neither _ _ (set-whole given.machine given.set)
    (neither _ _ (items-whole _ (append-whole (failures_from (mii_of given.problem) given.told.reasons.items) (chosen_try given.told.chosen)
    (failures-whole (mii_of given.problem) given.told.reasons.items) (chosen-whole given.told.chosen)))
    (neither _ _ (units-whole given.machine given.problem given.alternatives) refl)))))

pub object-whole : (given : Given) (heights : List ℕ) (edges : List Data)
    → AllZip (IsEdgeObject given.problem.loop given.problem.graph.latencies) given.problem.graph.edges edges → has_float (object_of given heights edges) ≡ false
object-whole given heights edges are =
    with-whole given heights edges given.told.chosen (edges-whole given.problem.loop given.problem.graph.latencies given.problem.graph.edges edges are)
