-- The passes as laws.
use Rattle.std.proofs.Common.{◌≡◌, ℕ, suc, zero, ◌+◌, ◌/◌, ◌<◌, true, List, [], ◌∷◌, length, map, Some, None, ℤ, pos, ◌+ℤ◌, sym, ap, ◌∙◌, subst, inl, inr, arith}
use Rattle.std.specs.Prelude.{slice_get, slice_index, is_some}
use Rattle.std.proofs.lemmas.Int.{ints}
use Rattle.std.proofs.lemmas.List.Elements.{All-contains}
use Rattle.std.proofs.lemmas.Option.{same_Some}
use Rattle.loop_data.specs.declared.language.statement.Statement.{Statement}
use Rattle.loop_data.specs.declared.language.statement.Operand.{Operand}
use Rattle.loop_data.specs.declared.language.statement.Operand.TheVariants.{Value}
use Rattle.loop_data.specs.Loops.{MayRead}
use Rattle.loop_data.specs.Run.{cell_index}
use Rattle.graph.specs.Promises.{issue_of}
use Rattle.kernel.specs.declared.kernels.operation.Operation.{Operation}
use Rattle.kernel.specs.Overlapped.{physical, is_issued}
use Rattle.overlap.specs.Allotments.{AllotmentData, allotted_number}
use Rattle.loop_schedules.specs.Schedules.{ScheduleData, stage_of}
use Rattle.overlap.specs.Emission.{name_of, source_of, operation_of, operations_from, emitted}
use Rattle.overlap.specs.Overlap.{IsLastStore, InstancesAreIssuedOnce, NamesAreOfInstances, RegistersHoldValues, LoadsFollowStores}
use Rattle.instances.proofs.Issued as issued
use Rattle.instances.proofs.Turned.{name-in_turn}
use Rattle.overlap.proofs.in_cells.LastStores.{holds-last}
use Rattle.overlap.proofs.in_cells.Loads.{load-finds, load-opens}
use Rattle.loop_data.proofs.Instances.{slice_get-within}
use Rattle.overlap.proofs.in_flight.Issued.{is_on, on-parts, on-from_parts}
use Rattle.overlap.proofs.in_registers.Registers.{register-lands, register-opens}
use Rattle.overlap.proofs.in_flight.Values.{load-same, blocks-of, cell-index_below}

-- (i)

operation-at : (schedule : ScheduleData) (allotment : AllotmentData) (q : ℕ) (statements : List Statement) (k : ℕ) (o : Operation)
    → slice_get (operations_from schedule allotment q statements) k ≡ Some o → (s : Statement) × (o ≡ operation_of schedule allotment (q + k) s)
operation-at schedule allotment q [] k o e = cc
operation-at schedule allotment q (s ∷ statements) zero o e =
    let z : q ≡ q + 0 = omega arith in
    let x : operation_of schedule allotment q s ≡ o = cc in
    (s, sym x ∙ ap (λ n. operation_of schedule allotment n s) z)
operation-at schedule allotment q (s ∷ statements) (suc k) o e =
    let r = operation-at schedule allotment (q + 1) statements k o e in
    let z : (q + 1) + k ≡ q + suc k = omega arith in
    (r.0, r.1 ∙ ap (λ n. operation_of schedule allotment n r.0) z)

pub instances-are_issued_once : InstancesAreIssuedOnce
unfolding emitted
instances-are_issued_once schedule allotment b trip cycle op o there =
    let ii : ℕ = schedule.ii in
    let some : 0 < ii = b.scheduled.ii_some in
    let at = operation-at schedule allotment 0 schedule.problem.loop.statements op o there in
    let z : 0 + op ≡ op = omega arith in
    let is : o ≡ operation_of schedule allotment op at.0 = at.1 ∙ ap (λ n. operation_of schedule allotment n at.0) z in
    let time = slice_index schedule.times op in
    let once = issued.instances-are_issued_once ii time trip cycle some in
    let same : is_issued (emitted schedule allotment) trip cycle o ≡ is_on ii time trip cycle = ap (is_issued (emitted schedule allotment) trip cycle) is in
    (λ on. once.0 (on-parts ii time trip cycle (sym same ∙ on)), λ it. same ∙ on-from_parts ii time trip cycle (once.1 it))

-- (ii)

statement-at : (schedule : ScheduleData) (allotment : AllotmentData) (q : ℕ) (statements : List Statement) (k : ℕ) (s : Statement)
    → slice_get statements k ≡ Some s → slice_get (operations_from schedule allotment q statements) k ≡ Some (operation_of schedule allotment (q + k) s)
statement-at schedule allotment q [] k s e = cc
statement-at schedule allotment q (x ∷ statements) zero s e =
    let z : q ≡ q + 0 = omega arith in
    let w : x ≡ s = cc in
    ap (λ y. Some (operation_of schedule allotment q y)) w ∙ ap (λ n. Some (operation_of schedule allotment n s)) z
statement-at schedule allotment q (x ∷ statements) (suc k) s e =
    let z : (q + 1) + k ≡ q + suc k = omega arith in
    statement-at schedule allotment (q + 1) statements k s e ∙ ap (λ n. Some (operation_of schedule allotment n s)) z

source-in : (schedule : ScheduleData) (allotment : AllotmentData) (stage : ℕ) (operands : List Operand) (k : ℕ) (o : Operand)
    → slice_get operands k ≡ Some o → slice_get (map (source_of schedule allotment stage) operands) k ≡ Some (source_of schedule allotment stage o)
source-in schedule allotment stage [] k o e = cc
source-in schedule allotment stage (x ∷ operands) zero o e = let w : x ≡ o = cc in ap (λ y. Some (source_of schedule allotment stage y)) w
source-in schedule allotment stage (x ∷ operands) (suc k) o e = source-in schedule allotment stage operands k o e

some-operation : (a b : Operation) → Some a ≡ Some b → a ≡ b
some-operation a b e = cc

pub names-are_of_instances : NamesAreOfInstances
unfolding emitted
names-are_of_instances schedule allotment b reader operand value distance iteration s o there is_operand is =
    let loop = schedule.problem.loop in
    let stage : ℕ = stage_of schedule reader in
    let z : 0 + reader ≡ reader = omega arith in
    let e : operation_of schedule allotment reader s ≡ o
    = ap (λ n. operation_of schedule allotment n s) (sym z) ∙ some-operation (operation_of schedule allotment (0 + reader) s) o (sym (statement-at schedule allotment 0 loop.statements reader s there) ∙ is) in
    let t : issue_of schedule.ii schedule.times reader iteration / schedule.ii ≡ stage + iteration = issued.turn-of_issue schedule.ii (slice_index schedule.times reader) iteration b.scheduled.ii_some in (
      name_of schedule allotment value distance stage,
      ap (λ (x : Operation). slice_get x.sources operand) (sym e) ∙ source-in schedule allotment stage s.operands operand (Value value distance) is_operand,
      ap (λ n. physical allotment.registers (name_of schedule allotment value distance stage) (pos n)) t
          ∙ name-in_turn allotment.registers (allotted_number loop allotment value) distance stage iteration b.allotted.some,
    )

pub registers-hold_values : RegistersHoldValues
registers-hold_values schedule allotment memory r value distance reader iteration s u within there =
    let loop = schedule.problem.loop in
    let may : MayRead loop reader (Value value distance)
    = All-contains (MayRead loop reader) u.0.operands (Value value distance) (r.belong.scheduled.problem.loop.each reader u.0 u.1).operands u.2 in
    let gives = may.0 in
    let same : gives.0 ≡ s = same_Some gives.0 s (sym gives.1 ∙ there) in
    let named : is_some s.name ≡ true = ap (λ (x : Statement). is_some x.name) (sym same) ∙ gives.2 in
    (register-lands schedule allotment memory r value s there named reader distance iteration u within, register-opens schedule allotment memory r value s there named reader distance iteration u)

-- (iii)

pub loads-follow_stores : LoadsFollowStores
loads-follow_stores schedule allotment memory r op iteration s place there load is_place within =
    let loop = schedule.problem.loop in
    let p = (r.belong.scheduled.problem.loop.each op s there).place place is_place in
    let low = p.low in
    let high = p.high in
    let array = p.array in
    let arrays = r.shape.same_arrays in
    let c : ℤ = pos iteration +ℤ place.offset in
    let h = holds-last schedule allotment memory (length memory.arrays) (memory.trip + 128) place.array (cell_index c) (omega arith)
    (cell-index_below c (memory.trip + 128) (omega (arith, ints)) (omega (arith, ints))) (blocks-of loop memory r.is_memory r.shape) iteration op
    (let l = slice_get-within loop.statements op s there in omega arith) in (
      λ write. (
        λ landed. elim h.1 [
          | inl last ↦
              let e : last.0 ≡ write = same_Some last.0 write (sym (load-finds schedule allotment memory r op iteration s place there load is_place within last.0 last.1) ∙ landed) in
              subst (IsLastStore schedule allotment memory op iteration place.array (cell_index c)) e last.1
          | inr none ↦ let e : None ≡ Some write = sym (load-opens schedule allotment memory r op iteration s place there load is_place none.0) ∙ landed in cc
        ],
        λ last. load-finds schedule allotment memory r op iteration s place there load is_place within write last,
      ),
      load-same schedule allotment memory r op iteration s place there load is_place within,
    )
