-- What the kernel's operations write is what the instances write.
use Rattle.std.proofs.Common.{◌≡◌, ◌⊎◌, ℕ, suc, zero, ◌+◌, ◌-◌, ◌/◌, ◌<◌, Bool, true, false, cond, List, [], ◌∷◌, ◌++◌, Option, Some, None, option_map, ℤ, pos, ◌+ℤ◌, ◌-ℤ◌, refl, sym, ap, ◌∙◌, subst, inl, inr, arith}
use Rattle.std.specs.Prelude.{slice_get, slice_index, is_some, IsSome}
use Rattle.std.specs.List.{cons_option}
use Rattle.std.proofs.lemmas.Bool.{true≢false}
use Rattle.std.proofs.lemmas.Int.{ints}
use Rattle.machine_data.specs.declared.opcode.Opcode.{Opcode}
use Rattle.machine_data.specs.declared.opcode.Opcode.TheVariants.{Load, Store}
use Rattle.loop_data.specs.Arithmetic.{apply_to}
use Rattle.loop_data.specs.declared.language.statement.Statement.{Statement}
use Rattle.loop_data.specs.declared.language.statement.Place.{Place}
use Rattle.loop_data.specs.Loops.{HasShape}
use Rattle.loop_data.specs.Run.{MemoryData, RunState, cell_index, cell_of, loaded, value_given, writes, first_of}
use Rattle.graph.specs.Promises.{issue_of}
use Rattle.kernel.specs.declared.kernels.operation.Operation.{Operation}
use Rattle.kernel.specs.declared.kernels.parts.Parts.{Parts}
use Rattle.kernel.specs.Overlapped.{InRegister, InCell, Write, physical, addressed, cell_landed, load_landed, write_of, write_given, to_register, to_cell, is_issued, writes_in}
use Rattle.overlap.specs.Allotments.{AllotmentData, allotted_number}
use Rattle.loop_schedules.specs.Schedules.{ScheduleData, stage_of}
use Rattle.overlap.specs.Emission.{name_of, address_of, operation_of, operations_from, emitted}
use Rattle.overlap.specs.Sequence.{state_before, read_by, stored_by, made_by, write_by_opcode, write_of_instance, write_now, sequence_in, sequence_before}
use Rattle.overlap.specs.Overlap.{IsRun, WritesAreOfValues}
use Rattle.instances.proofs.Issued.{cycle-from_row, turn-of_issue}
use Rattle.instances.proofs.Turned.{name-in_turn}
use Rattle.loop_data.proofs.Instances.{length-before}
use Rattle.overlap.proofs.in_flight.Issued.{is_on, on-parts}
use Rattle.overlap.proofs.in_flight.Values.{sources-same, load-same}

-- the cell of an address is that of the place
cell-in_turn : (schedule : ScheduleData) (allotment : AllotmentData) (q j : ℕ) (place : Place) → 0 < schedule.ii
    → addressed (emitted schedule allotment) (issue_of schedule.ii schedule.times q j) (address_of (stage_of schedule q) place) ≡ (pos j +ℤ place.offset)
unfolding emitted
cell-in_turn schedule allotment q j place some =
    let t : issue_of schedule.ii schedule.times q j / schedule.ii ≡ stage_of schedule q + j = turn-of_issue schedule.ii (slice_index schedule.times q) j some in
    ap (λ n. pos n +ℤ (place.offset -ℤ pos (stage_of schedule q))) t ∙ omega (arith, ints)

-- a store

stored-same : (schedule : ScheduleData) (allotment : AllotmentData) (arrays : List (List ℤ)) (q j : ℕ) (s : Statement) (place : Option Place) → 0 < schedule.ii
    → to_cell (emitted schedule allotment) (issue_of schedule.ii schedule.times q j) (operation_of schedule allotment q s) (read_by schedule.problem.loop arrays q j s) (option_map (address_of (stage_of schedule q)) place)
    ≡ stored_by schedule arrays q j s place
stored-same schedule allotment arrays q j s None some = refl
stored-same schedule allotment arrays q j s (Some place) some =
    let reads : List ℤ = read_by schedule.problem.loop arrays q j s in
    let at : ℤ → Option Write = λ c. Some (record {
      target = InCell place.array (cell_index c);
      value = first_of reads;
      start = issue_of schedule.ii schedule.times q j + slice_index schedule.problem.graph.latencies q;
    }) in
    ap (λ c. cond (writes reads) (at c) None) (cell-in_turn schedule allotment q j place some)

-- a value

made-same : (schedule : ScheduleData) (allotment : AllotmentData) (arrays : List (List ℤ)) (q j : ℕ) (s : Statement) (v : ℤ) (name : Option (List ℕ)) → 0 < schedule.ii → 0 < allotment.registers → is_some name ≡ true
    → to_register (emitted schedule allotment) (issue_of schedule.ii schedule.times q j) (operation_of schedule allotment q s) v (option_map (λ (n : List ℕ). name_of schedule allotment q 0 (stage_of schedule q)) name)
    ≡ Some (record {
      target = InRegister (physical allotment.registers (allotted_number schedule.problem.loop allotment q) (pos j));
      value = v;
      start = issue_of schedule.ii schedule.times q j + slice_index schedule.problem.graph.latencies q;
    })
unfolding emitted
made-same schedule allotment arrays q j s v None some registers named = absurd (true≢false (sym named))
made-same schedule allotment arrays q j s v (Some n) some registers named =
    let at : ℕ → Option Write = λ r. Some (record {
      target = InRegister r;
      value = v;
      start = issue_of schedule.ii schedule.times q j + slice_index schedule.problem.graph.latencies q;
    }) in
    let t : issue_of schedule.ii schedule.times q j / schedule.ii ≡ stage_of schedule q + j = turn-of_issue schedule.ii (slice_index schedule.times q) j some in
    ap (λ k. at (physical allotment.registers (name_of schedule allotment q 0 (stage_of schedule q)) (pos k))) t
    ∙ ap at (name-in_turn allotment.registers (allotted_number schedule.problem.loop allotment q) 0 (stage_of schedule q) j registers
    ∙ ap (physical allotment.registers (allotted_number schedule.problem.loop allotment q)) (let e : (pos j -ℤ pos 0) ≡ pos j = omega (arith, ints) in e))

-- by opcodes

cases : (o : Opcode) → (o ≡ Store) ⊎ ((o ≡ Load)
    ⊎ (((parts : Parts) (memory : MemoryData) (issued : List Write) (cycle : ℕ) (op : Operation) (operands : List ℤ) → write_given parts memory issued cycle o op operands ≡ to_register parts cycle op (apply_to o operands) op.destination)
    × ((state : RunState) (place : Option Place) (operands : List ℤ) → value_given state o place operands ≡ apply_to o operands)
    × ((schedule : ScheduleData) (allotment : AllotmentData) (arrays : List (List ℤ)) (q j : ℕ) (s : Statement) → write_by_opcode schedule allotment arrays q j o s ≡ made_by schedule allotment arrays q j s)
    × ((s : Statement) → HasShape o s → IsSome s.name)))
cases Store = inl refl
cases Load = inr (inl refl)
cases o = inr (inr (λ parts memory issued cycle op operands. refl, λ state place operands. refl, λ schedule allotment arrays q j s. refl, λ s h. h.0))

loaded-same : (schedule : ScheduleData) (allotment : AllotmentData) (memory : MemoryData) → IsRun schedule allotment memory
    → (q j : ℕ) (s : Statement) (place : Option Place) → slice_get schedule.problem.loop.statements q ≡ Some s → s.opcode ≡ Load → s.place ≡ place → j < memory.trip
    → load_landed (emitted schedule allotment) memory (sequence_before schedule allotment memory (issue_of schedule.ii schedule.times q j)) (issue_of schedule.ii schedule.times q j) (option_map (address_of (stage_of schedule q)) place)
    ≡ loaded (state_before schedule.problem.loop memory.arrays q j) place
loaded-same schedule allotment memory r q j s None there load is within = refl
loaded-same schedule allotment memory r q j s (Some place) there load is within =
    let cycle : ℕ = issue_of schedule.ii schedule.times q j in
    ap (λ c. cell_landed memory (sequence_before schedule allotment memory cycle) place.array c cycle) (cell-in_turn schedule allotment q j place r.belong.scheduled.ii_some)
    ∙ load-same schedule allotment memory r q j s place there load is within
    ∙ ap (λ n. cell_of (state_before schedule.problem.loop memory.arrays q j).arrays place.array (pos n +ℤ place.offset)) (sym (length-before schedule.problem.loop memory.arrays q j))

load-shape : (s : Statement) → HasShape Load s → IsSome s.name
load-shape s h = h.0

-- the write of an operation at its instance's issue

write-same : (schedule : ScheduleData) (allotment : AllotmentData) (memory : MemoryData) → IsRun schedule allotment memory
    → (q j : ℕ) (s : Statement) → slice_get schedule.problem.loop.statements q ≡ Some s → j < memory.trip
    → write_of (emitted schedule allotment) memory (sequence_before schedule allotment memory (issue_of schedule.ii schedule.times q j)) (issue_of schedule.ii schedule.times q j) (operation_of schedule allotment q s)
    ≡ write_of_instance schedule allotment memory.arrays q j s
unfolding write_of write_of_instance
write-same schedule allotment memory r q j s there within =
    let loop = schedule.problem.loop in
    let cycle : ℕ = issue_of schedule.ii schedule.times q j in
    let issued : List Write = sequence_before schedule allotment memory cycle in
    let parts : Parts = emitted schedule allotment in
    let op : Operation = operation_of schedule allotment q s in
    let some : 0 < schedule.ii = r.belong.scheduled.ii_some in
    let registers : 0 < allotment.registers = r.belong.allotted.some in
    let shape = (r.belong.scheduled.problem.loop.each q s there).shape in
    let reads : List ℤ = read_by loop memory.arrays q j s in
    let made : ℤ → Option Write = λ v. Some (record {
      target = InRegister (physical allotment.registers (allotted_number loop allotment q) (pos j));
      value = v;
      start = cycle + slice_index schedule.problem.graph.latencies q;
    }) in
    ap (write_given parts memory issued cycle s.opcode op) (sources-same schedule allotment memory r q j s there within)
    ∙ elim (cases s.opcode) [
      | inl store ↦
          ap (λ o. write_given parts memory issued cycle o op reads) store
          ∙ stored-same schedule allotment memory.arrays q j s s.place some
          ∙ sym (ap (λ o. write_by_opcode schedule allotment memory.arrays q j o s) store)
      | inr more ↦ elim more [
        | inl load ↦
            ap (λ o. write_given parts memory issued cycle o op reads) load
            ∙ made-same schedule allotment memory.arrays q j s (load_landed parts memory issued cycle op.address) s.name some registers (load-shape s (subst (λ o. HasShape o s) load shape))
            ∙ ap made (loaded-same schedule allotment memory r q j s s.place there load refl within)
            ∙ ap made (sym (ap (λ o. value_given (state_before loop memory.arrays q j) o s.place reads) load))
            ∙ sym (ap (λ o. write_by_opcode schedule allotment memory.arrays q j o s) load)
        | inr other ↦
            other.0 parts memory issued cycle op reads
            ∙ made-same schedule allotment memory.arrays q j s (apply_to s.opcode reads) s.name some registers (other.3 s shape)
            ∙ ap made (sym (other.1 (state_before loop memory.arrays q j) s.place reads))
            ∙ sym (other.2 schedule allotment memory.arrays q j s)
      ]
    ]

-- all operations of a cycle

same-test : {X : Type 0} (b : Bool) (x y : Option X) → (b ≡ true → x ≡ y) → cond b x None ≡ cond b y None
same-test true x y h = h refl
same-test false x y h = refl

one-same : (schedule : ScheduleData) (allotment : AllotmentData) (memory : MemoryData) → IsRun schedule allotment memory
    → (cycle q : ℕ) (s : Statement) → slice_get schedule.problem.loop.statements q ≡ Some s
    → cond (is_issued (emitted schedule allotment) memory.trip cycle (operation_of schedule allotment q s))
    (write_of (emitted schedule allotment) memory (sequence_before schedule allotment memory cycle) cycle (operation_of schedule allotment q s)) None
    ≡ write_now schedule allotment memory cycle q s
unfolding emitted
one-same schedule allotment memory r cycle q s there =
    let ii : ℕ = schedule.ii in
    let j : ℕ = cycle / ii - stage_of schedule q in
    let time = slice_index schedule.times q in
    same-test (is_on ii time memory.trip cycle)
    (write_of (emitted schedule allotment) memory (sequence_before schedule allotment memory cycle) cycle (operation_of schedule allotment q s))
    (write_of_instance schedule allotment memory.arrays q j s)
    (λ on.
    let p = on-parts ii time memory.trip cycle on in
    let l = p.2 in
    let at : cycle ≡ issue_of ii schedule.times q j = cycle-from_row ii time cycle p.0 p.1 in
    ap (λ c. write_of (emitted schedule allotment) memory (sequence_before schedule allotment memory c) c (operation_of schedule allotment q s)) at
    ∙ write-same schedule allotment memory r q j s there (omega arith))

in-same : (schedule : ScheduleData) (allotment : AllotmentData) (memory : MemoryData) → IsRun schedule allotment memory
    → (cycle q : ℕ) (statements : List Statement) → ((k : ℕ) (s : Statement) → slice_get statements k ≡ Some s → slice_get schedule.problem.loop.statements (q + k) ≡ Some s)
    → writes_in (emitted schedule allotment) memory (sequence_before schedule allotment memory cycle) cycle (operations_from schedule allotment q statements)
    ≡ sequence_in schedule allotment memory cycle q statements
in-same schedule allotment memory r cycle q [] all = refl
in-same schedule allotment memory r cycle q (s ∷ statements) all =
    let z : q + 0 ≡ q = omega arith in
    let rest : List Write = writes_in (emitted schedule allotment) memory (sequence_before schedule allotment memory cycle) cycle (operations_from schedule allotment (q + 1) statements) in
    ap (λ o. cons_option o rest) (one-same schedule allotment memory r cycle q s (ap (slice_get schedule.problem.loop.statements) (sym z) ∙ all 0 s refl))
    ∙ ap (cons_option (write_now schedule allotment memory cycle q s))
    (in-same schedule allotment memory r cycle (q + 1) statements (λ k t h. let y : (q + 1) + k ≡ q + suc k = omega arith in ap (slice_get schedule.problem.loop.statements) y ∙ all (suc k) t h))

pub writes-are_of_values : WritesAreOfValues
unfolding emitted
writes-are_of_values schedule allotment memory r zero = refl
writes-are_of_values schedule allotment memory r (suc cycle) =
    let parts : Parts = emitted schedule allotment in
    ap (λ w. w ++ writes_in parts memory w cycle parts.operations) (writes-are_of_values schedule allotment memory r cycle)
    ∙ ap (λ w. sequence_before schedule allotment memory cycle ++ w)
    (in-same schedule allotment memory r cycle 0 schedule.problem.loop.statements (λ k s h. let z : 0 + k ≡ k = omega arith in ap (slice_get schedule.problem.loop.statements) z ∙ h))
