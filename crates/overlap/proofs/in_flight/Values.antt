-- The kernel makes the writes of the plain run's values.
use Rattle.std.proofs.Common.{◌≡◌, ℕ, ◌+◌, ◌-◌, ◌/◌, ◌<◌, List, [], ◌∷◌, length, map, Some, ℤ, pos, ◌+ℤ◌, ◌-ℤ◌, refl, sym, ap, ◌∙◌, inl, inr, arith}
use Rattle.std.specs.Prelude.{slice_get, slice_index, ◌≤ℤ◌, ◌<ℤ◌, nat_abs, negsuc}
use Rattle.std.specs.List.{Contains}
use Rattle.std.proofs.lemmas.Bool.{cases_lt}
use Rattle.std.proofs.lemmas.Int.{ints}
use Rattle.std.proofs.lemmas.List.Elements.{All-contains}
use Rattle.machine_data.specs.declared.opcode.Opcode.TheVariants.{Load}
use Rattle.loop_data.specs.declared.language.statement.Statement.{Statement}
use Rattle.loop_data.specs.declared.language.statement.Operand.{Operand}
use Rattle.loop_data.specs.declared.language.statement.Operand.TheVariants as operand
use Rattle.loop_data.specs.declared.language.statement.Place.{Place}
use Rattle.loop_data.specs.Loops.{LoopData, MayRead}
use Rattle.loop_data.specs.Run.{HasShapeOf, MemoryData, IsMemory, read_operand, cell_index, cell_of}
use Rattle.graph.specs.Dependences.{Uses}
use Rattle.graph.specs.Promises.{issue_of}
use Rattle.kernel.specs.declared.kernels.operation.Source.{Source}
use Rattle.kernel.specs.Overlapped.{InRegister, physical, last_landed, value_or, preloaded, cell_landed, register_at, source_at}
use Rattle.overlap.specs.Allotments.{AllotmentData, allotted_number}
use Rattle.loop_schedules.specs.Schedules.{ScheduleData, stage_of}
use Rattle.overlap.specs.Emission.{name_of, source_of, emitted}
use Rattle.overlap.specs.Sequence.{state_before, read_by, sequence_before}
use Rattle.overlap.specs.Overlap.{IsRun}
use Rattle.overlap.proofs.in_flight.Landing.{contains-head, contains-tail}
use Rattle.instances.proofs.Issued.{turn-of_issue}
use Rattle.instances.proofs.Turned.{name-in_turn}
use Rattle.loop_data.proofs.Instances.{read-value, read-initial, slice_get-within}
use Rattle.loop_data.proofs.InstanceCells.{HaveBlocks}
use Rattle.overlap.proofs.in_cells.LastStores.{holds-last}
use Rattle.overlap.proofs.in_flight.Writes.{makes-value}
use Rattle.overlap.proofs.in_registers.Registers.{register-lands, register-opens}
use Rattle.overlap.proofs.in_cells.Loads.{load-finds, load-opens}

-- what an operand's source gives

value-same : (schedule : ScheduleData) (allotment : AllotmentData) (memory : MemoryData) → IsRun schedule allotment memory
    → (q j : ℕ) (s : Statement) → slice_get schedule.problem.loop.statements q ≡ Some s → j < memory.trip
    → (x d : ℕ) → Contains s.operands (operand.Value x d) → MayRead schedule.problem.loop q (operand.Value x d)
    → value_or (last_landed (sequence_before schedule allotment memory (issue_of schedule.ii schedule.times q j))
    (InRegister (physical allotment.registers (allotted_number schedule.problem.loop allotment x) (pos j -ℤ pos d))) (issue_of schedule.ii schedule.times q j))
    (preloaded (emitted schedule allotment) (physical allotment.registers (allotted_number schedule.problem.loop allotment x) (pos j -ℤ pos d)))
    ≡ read_operand schedule.problem.loop (state_before schedule.problem.loop memory.arrays q j) (operand.Value x d)
value-same schedule allotment memory run q j s there within x d c may =
    let loop = schedule.problem.loop in
    let r : ℕ = physical allotment.registers (allotted_number loop allotment x) (pos j -ℤ pos d) in
    let opening : ℤ = preloaded (emitted schedule allotment) r in
    let gives = may.0 in
    let u : Uses loop q x d = (s, there, c) in
    let shape = (run.belong.scheduled.problem.loop.each x gives.0 gives.1).shape in
    elim (cases_lt j d) [
      | inr le ↦
          ap (λ o. value_or o opening) (register-lands schedule allotment memory run x gives.0 gives.1 gives.2 q d j u within le
          ∙ makes-value schedule allotment memory.arrays x (j - d) gives.0 shape gives.2)
          ∙ sym (read-value loop memory.arrays q j x d gives.0 gives.1 may.2 le)
      | inl lt ↦
          let opens = register-opens schedule allotment memory run x gives.0 gives.1 gives.2 q d j u lt in
          ap (λ o. value_or o opening) opens.0 ∙ opens.1
          ∙ sym (read-initial loop memory.arrays q j x d lt)
    ]

source-same : (schedule : ScheduleData) (allotment : AllotmentData) (memory : MemoryData) → IsRun schedule allotment memory
    → (q j : ℕ) (s : Statement) → slice_get schedule.problem.loop.statements q ≡ Some s → j < memory.trip
    → (o : Operand) → Contains s.operands o → MayRead schedule.problem.loop q o
    → source_at (emitted schedule allotment) (sequence_before schedule allotment memory (issue_of schedule.ii schedule.times q j)) (issue_of schedule.ii schedule.times q j) (source_of schedule allotment (stage_of schedule q) o)
    ≡ read_operand schedule.problem.loop (state_before schedule.problem.loop memory.arrays q j) o
unfolding emitted
source-same schedule allotment memory run q j s there within (operand.Constant v) c may = refl
source-same schedule allotment memory run q j s there within (operand.Parameter n) c may = refl
source-same schedule allotment memory run q j s there within (operand.Value x d) c may =
    let loop = schedule.problem.loop in
    let cycle : ℕ = issue_of schedule.ii schedule.times q j in
    let t : cycle / schedule.ii ≡ stage_of schedule q + j = turn-of_issue schedule.ii (slice_index schedule.times q) j run.belong.scheduled.ii_some in
    ap (λ k. register_at (emitted schedule allotment) (sequence_before schedule allotment memory cycle) (physical allotment.registers (name_of schedule allotment x d (stage_of schedule q)) (pos k)) cycle) t
    ∙ ap (λ r. register_at (emitted schedule allotment) (sequence_before schedule allotment memory cycle) r cycle)
    (name-in_turn allotment.registers (allotted_number loop allotment x) d (stage_of schedule q) j run.belong.allotted.some)
    ∙ value-same schedule allotment memory run q j s there within x d c may

pub map-same : {X Y : Type 0} (f g : X → Y) (xs : List X) → ((x : X) → Contains xs x → f x ≡ g x) → map f xs ≡ map g xs
map-same f g [] same = refl
map-same f g (x ∷ xs) same = ap (λ y. y ∷ map f xs) (same x (contains-head x xs)) ∙ ap (λ ys. g x ∷ ys) (map-same f g xs (λ y c. same y (contains-tail x xs y c)))

pub map-map : {X Y Z : Type 0} (f : Y → Z) (g : X → Y) (xs : List X) → map f (map g xs) ≡ map (λ x. f (g x)) xs
map-map f g [] = refl
map-map f g (x ∷ xs) = ap (λ ys. f (g x) ∷ ys) (map-map f g xs)

pub sources-same : (schedule : ScheduleData) (allotment : AllotmentData) (memory : MemoryData) → IsRun schedule allotment memory
    → (q j : ℕ) (s : Statement) → slice_get schedule.problem.loop.statements q ≡ Some s → j < memory.trip
    → map (source_at (emitted schedule allotment) (sequence_before schedule allotment memory (issue_of schedule.ii schedule.times q j)) (issue_of schedule.ii schedule.times q j)) (map (source_of schedule allotment (stage_of schedule q)) s.operands)
    ≡ read_by schedule.problem.loop memory.arrays q j s
sources-same schedule allotment memory run q j s there within =
    let loop = schedule.problem.loop in
    let cycle : ℕ = issue_of schedule.ii schedule.times q j in
    let at : Source → ℤ = source_at (emitted schedule allotment) (sequence_before schedule allotment memory cycle) cycle in
    map-map at (source_of schedule allotment (stage_of schedule q)) s.operands
    ∙ map-same (λ o. at (source_of schedule allotment (stage_of schedule q) o)) (read_operand loop (state_before loop memory.arrays q j)) s.operands
    (λ o c. source-same schedule allotment memory run q j s there within o c
    (All-contains (MayRead loop q) s.operands o (run.belong.scheduled.problem.loop.each q s there).operands c))

-- cells

pub blocks-of : (loop : LoopData) (memory : MemoryData) → IsMemory memory → HasShapeOf loop memory → HaveBlocks (length memory.arrays) (memory.trip + 128) memory.arrays
blocks-of loop memory m shape = record { many = refl; long = λ a lt. m.cells a [] lt }

nat-below : (z : ℤ) (n : ℕ) → pos 0 ≤ℤ z → z <ℤ pos n → nat_abs z < n
nat-below (pos a) n low high = omega (arith, ints)
nat-below (negsuc a) n low high = absurd (omega (arith, ints))

pub cell-index_below : (c : ℤ) (n : ℕ) → pos 0 ≤ℤ (c +ℤ pos 64) → (c +ℤ pos 64) <ℤ pos n → cell_index c < n
cell-index_below c n low high = nat-below (c +ℤ pos 64) n low high

-- a load reads the cell of the plain run
pub load-same : (schedule : ScheduleData) (allotment : AllotmentData) (memory : MemoryData) → IsRun schedule allotment memory
    → (q j : ℕ) (s : Statement) (place : Place) → slice_get schedule.problem.loop.statements q ≡ Some s → s.opcode ≡ Load → s.place ≡ Some place → j < memory.trip
    → cell_landed memory (sequence_before schedule allotment memory (issue_of schedule.ii schedule.times q j)) place.array (pos j +ℤ place.offset) (issue_of schedule.ii schedule.times q j)
    ≡ cell_of (state_before schedule.problem.loop memory.arrays q j).arrays place.array (pos j +ℤ place.offset)
load-same schedule allotment memory run q j s place there load is_place within =
    let loop = schedule.problem.loop in
    let p = (run.belong.scheduled.problem.loop.each q s there).place place is_place in
    let low = p.low in
    let high = p.high in
    let array = p.array in
    let arrays = run.shape.same_arrays in
    let c : ℤ = pos j +ℤ place.offset in
    let i : ℕ = cell_index c in
    let opening : ℤ = cell_of memory.arrays place.array c in
    let h = holds-last schedule allotment memory (length memory.arrays) (memory.trip + 128) place.array i (omega arith)
    (cell-index_below c (memory.trip + 128) (omega (arith, ints)) (omega (arith, ints))) (blocks-of loop memory run.is_memory run.shape) j q
    (let l = slice_get-within loop.statements q s there in omega arith) in
    elim h.1 [
      | inl last ↦ ap (λ o. value_or o opening) (load-finds schedule allotment memory run q j s place there load is_place within last.0 last.1) ∙ sym last.2
      | inr none ↦ ap (λ o. value_or o opening) (load-opens schedule allotment memory run q j s place there load is_place none.0) ∙ sym none.1
    ]
