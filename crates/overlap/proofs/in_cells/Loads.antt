-- A cell holds, when it is loaded, what it holds in the plain run.
use Rattle.std.proofs.Common.{◌≡◌, ◌⊎◌, ℕ, ◌+◌, ◌<◌, ◌≤◌, Some, None, ℤ, pos, ◌+ℤ◌, refl, sym, ap, ◌∙◌, inl, inr, arith}
use Rattle.std.specs.Prelude.{slice_get, slice_index, ◌≤ℤ◌, neg_ℤ}
use Rattle.std.specs.List.{Contains}
use Rattle.std.proofs.lemmas.Bool.{cases_lt, cases_order}
use Rattle.std.proofs.lemmas.Int.{ints}
use Rattle.std.proofs.lemmas.Option.{same_Some}
use Rattle.machine_data.specs.declared.opcode.Opcode.{Opcode}
use Rattle.machine_data.specs.declared.opcode.Opcode.TheVariants.{Load, Store}
use Rattle.loop_data.specs.declared.language.statement.Statement.{Statement}
use Rattle.loop_data.specs.declared.language.statement.Place.{Place}
use Rattle.loop_data.specs.Loops.{LoopData, IsPlace}
use Rattle.loop_data.specs.Run.{MemoryData, cell_index}
use Rattle.loop_data.proofs.InstanceCells.{cell-one}
use Rattle.graph.specs.Dependences.{Touches, HasOpcode, ComesFirst}
use Rattle.graph.specs.Promises.{issue_of, InOrder}
use Rattle.graph.proofs.finding.Promised.{stores-in_time, loads-in_time, stores-in_order}
use Rattle.kernel.specs.Overlapped.{InCell, Write, last_landed}
use Rattle.overlap.specs.Allotments.{AllotmentData}
use Rattle.loop_schedules.specs.Schedules.{ScheduleData, IsSchedule}
use Rattle.overlap.specs.Sequence.{write_of_instance, sequence_before}
use Rattle.overlap.specs.Overlap.{IsRun, IsLastStore}
use Rattle.overlap.proofs.in_flight.Issued.{IsIssued, issued-from_sequence, sequence-from_issued}
use Rattle.overlap.proofs.in_flight.Landing.{last-landed_is, none-landed}
use Rattle.overlap.proofs.in_cells.LastStores.{HasNoStore}
use Rattle.overlap.proofs.in_flight.Writes.{IsStored, keeps-dependences, takes-time, into-cell}

cell-parts : (a i b j : ℕ) → InCell a i ≡ InCell b j → (a ≡ b) × (i ≡ j)
cell-parts a i b j e = (cc, cc)

-- the instance of a statement with this place touches the cell
pub touches : (loop : LoopData) (op j : ℕ) (s : Statement) (place : Place) (a : ℕ) (c : ℤ) → slice_get loop.statements op ≡ Some s → s.place ≡ Some place
    → place.array ≡ a → (pos j +ℤ place.offset) ≡ c → Touches loop op j a c
touches loop op j s place a c there is array same = record { statement = s; is_statement = there; place = place; is_place = is; same_array = array; same_cell = same }

-- a store's write of a cell of this index touches that cell
store-touches : (schedule : ScheduleData) (allotment : AllotmentData) (memory : MemoryData) → IsSchedule schedule → (op j : ℕ) (s : Statement) (w : Write) (a : ℕ) (c : ℤ)
    → slice_get schedule.problem.loop.statements op ≡ Some s → write_of_instance schedule allotment memory.arrays op j s ≡ Some w → w.target ≡ InCell a (cell_index c) → neg_ℤ (pos 64) ≤ℤ c
    → Touches schedule.problem.loop op j a c × HasOpcode schedule.problem.loop op Store × (w.start ≡ issue_of schedule.ii schedule.times op j + slice_index schedule.problem.graph.latencies op)
store-touches schedule allotment memory sc op j s w a c there e t low =
    let is = sc.problem.loop.each op s there in
    let k = into-cell schedule allotment memory.arrays op j s w a (cell_index c) is.shape e t in
    let st : IsStored schedule memory.arrays op j s w = k.1 in
    let parts = cell-parts st.place.array (cell_index (pos j +ℤ st.place.offset)) a (cell_index c) (sym st.target ∙ t) in
    let p : IsPlace schedule.problem.loop st.place = is.place st.place st.is_place in
    let l = p.low in
    let same = cell-one (pos j +ℤ st.place.offset) c (omega (arith, ints)) low parts.1 in
    (touches schedule.problem.loop op j s st.place a c there st.is_place parts.0 same, (s, there, k.0), st.start)

in-order : (loop : LoopData) (p i q j a : ℕ) (c : ℤ) → Touches loop p i a c → Touches loop q j a c → ComesFirst p i q j → InOrder loop p i q j
in-order loop p i q j a c x y o = record { array = a; cell = c; first = x; second = y; order = o }

order-cases : (p i q j : ℕ) → ComesFirst p i q j ⊎ (((p ≡ q) × (i ≡ j)) ⊎ ComesFirst q j p i)
order-cases p i q j = elim (cases_order i j) [
  | inl same ↦ elim (cases_order p q) [
    | inl e ↦ inr (inl (e, same))
    | inr o ↦ elim o [
      | inl lt ↦ inl (inr (same, lt))
      | inr gt ↦ inr (inr (inr (sym same, gt)))
    ]
  ]
  | inr o ↦ elim o [
    | inl lt ↦ inl (inl lt)
    | inr gt ↦ inr (inr (inl gt))
  ]
]

load-or_store : (o : Opcode) → o ≡ Load → o ≡ Store → ⊥
load-or_store o a b = let e : Load ≡ Store = sym a ∙ b in cc

-- a store that lands on a cell by the time of its load comes first in the plain run
comes-first : (schedule : ScheduleData) (allotment : AllotmentData) (memory : MemoryData) → IsSchedule schedule
    → (q j : ℕ) (s : Statement) (place : Place) → slice_get schedule.problem.loop.statements q ≡ Some s → s.opcode ≡ Load → s.place ≡ Some place
    → (v : Write) (is : IsIssued schedule allotment memory (issue_of schedule.ii schedule.times q j) v) → v.target ≡ InCell place.array (cell_index (pos j +ℤ place.offset)) → v.start ≤ issue_of schedule.ii schedule.times q j
    → ComesFirst is.op is.iteration q j
comes-first schedule allotment memory sc q j s place there load is_place v is t early =
    let loop = schedule.problem.loop in
    let c : ℤ = pos j +ℤ place.offset in
    let low = ((sc.problem.loop.each q s there).place place is_place).low in
    let st = store-touches schedule allotment memory sc is.op is.iteration is.statement v place.array c is.is_statement is.is_write t (omega (arith, ints)) in
    elim (order-cases is.op is.iteration q j) [
      | inl first ↦ first
      | inr o ↦ elim o [
        | inl same ↦
            let e : s ≡ is.statement = same_Some s is.statement (sym there ∙ ap (slice_get loop.statements) (sym same.0) ∙ is.is_statement) in
            let h = st.1 in
            let f : h.0 ≡ is.statement = same_Some h.0 is.statement (sym h.1 ∙ is.is_statement) in
            absurd (load-or_store s.opcode load (ap (λ (x : Statement). x.opcode) (e ∙ sym f) ∙ h.2))
        | inr later ↦
            let l = loads-in_time loop schedule.problem.graph.latencies schedule.ii schedule.times (keeps-dependences schedule sc) q j is.op is.iteration
            (in-order loop q j is.op is.iteration place.array c (touches loop q j s place place.array c there is_place refl refl) st.0 later) (s, there, load) st.1 in
            let e = st.2 in
            absurd (omega arith)
      ]
    ]

first-within : (p i q j n : ℕ) → ComesFirst p i q j → j < n → i < n
first-within p i q j n (inl less) h = omega arith
first-within p i q j n (inr same) h = let e = same.0 in omega arith

-- of two stores on a cell the one that comes first lands first
pub lands-first : (schedule : ScheduleData) (allotment : AllotmentData) (memory : MemoryData) → IsSchedule schedule → (a : ℕ) (c : ℤ) → neg_ℤ (pos 64) ≤ℤ c
    → (p i q j : ℕ) (s t : Statement) (v w : Write) → slice_get schedule.problem.loop.statements p ≡ Some s → slice_get schedule.problem.loop.statements q ≡ Some t
    → write_of_instance schedule allotment memory.arrays p i s ≡ Some v → write_of_instance schedule allotment memory.arrays q j t ≡ Some w
    → v.target ≡ InCell a (cell_index c) → w.target ≡ InCell a (cell_index c) → ComesFirst p i q j → v.start < w.start
lands-first schedule allotment memory sc a c low p i q j s t v w hp hq ev ew tv tw o =
    let loop = schedule.problem.loop in
    let x = store-touches schedule allotment memory sc p i s v a c hp ev tv low in
    let y = store-touches schedule allotment memory sc q j t w a c hq ew tw low in
    let l = stores-in_order loop schedule.problem.graph.latencies schedule.ii schedule.times (keeps-dependences schedule sc) p i q j (in-order loop p i q j a c x.0 y.0 o) x.1 y.1 in
    let e = x.2 in let f = y.2 in
    omega arith

pub load-finds : (schedule : ScheduleData) (allotment : AllotmentData) (memory : MemoryData) → IsRun schedule allotment memory
    → (q j : ℕ) (s : Statement) (place : Place) → slice_get schedule.problem.loop.statements q ≡ Some s → s.opcode ≡ Load → s.place ≡ Some place → j < memory.trip
    → (w : Write) → IsLastStore schedule allotment memory q j place.array (cell_index (pos j +ℤ place.offset)) w
    → last_landed (sequence_before schedule allotment memory (issue_of schedule.ii schedule.times q j)) (InCell place.array (cell_index (pos j +ℤ place.offset))) (issue_of schedule.ii schedule.times q j) ≡ Some w
load-finds schedule allotment memory run q j s place there load is_place within w last =
    let loop = schedule.problem.loop in
    let sc = run.belong.scheduled in
    let some : 0 < schedule.ii = sc.ii_some in
    let cycle : ℕ = issue_of schedule.ii schedule.times q j in
    let c : ℤ = pos j +ℤ place.offset in
    let low = ((sc.problem.loop.each q s there).place place is_place).low in
    let deep : neg_ℤ (pos 64) ≤ℤ c = omega (arith, ints) in
    let st = store-touches schedule allotment memory sc last.store last.stored_in last.statement w place.array c last.is_statement last.is_write last.same_cell deep in
    let in_time = stores-in_time loop schedule.problem.graph.latencies schedule.ii schedule.times (keeps-dependences schedule sc) last.store last.stored_in q j
    (in-order loop last.store last.stored_in q j place.array c st.0 (touches loop q j s place place.array c there is_place refl refl) last.before) st.1 (s, there, load) in
    let takes = takes-time schedule sc last.store last.statement last.is_statement in
    let e = st.2 in
    let there_is : Contains (sequence_before schedule allotment memory cycle) w
    = sequence-from_issued schedule allotment memory cycle w some last.store last.stored_in last.statement last.is_statement
    (first-within last.store last.stored_in q j memory.trip last.before within) (omega arith) last.is_write in
    ap (λ t. last_landed (sequence_before schedule allotment memory cycle) t cycle) (sym last.same_cell)
    ∙ last-landed_is (sequence_before schedule allotment memory cycle) cycle w there_is (omega arith) (λ v d t early.
    let is = issued-from_sequence schedule allotment memory cycle v d in
    let target : v.target ≡ InCell place.array (cell_index c) = t ∙ last.same_cell in
    let first = comes-first schedule allotment memory sc q j s place there load is_place v is target early in
    elim (last.last is.op is.iteration is.statement v is.is_statement first is.is_write target) [
      | inl same ↦
          let x : is.statement ≡ last.statement = same_Some is.statement last.statement (sym is.is_statement ∙ ap (slice_get loop.statements) same.0 ∙ last.is_statement) in
          inl (same_Some v w (sym is.is_write
          ∙ ap (λ n. write_of_instance schedule allotment memory.arrays n is.iteration is.statement) same.0
          ∙ ap (λ n. write_of_instance schedule allotment memory.arrays last.store n is.statement) same.1
          ∙ ap (write_of_instance schedule allotment memory.arrays last.store last.stored_in) x ∙ last.is_write))
      | inr o ↦ inr (lands-first schedule allotment memory sc place.array c deep is.op is.iteration last.store last.stored_in is.statement last.statement v w is.is_statement last.is_statement is.is_write last.is_write target last.same_cell o)
    ])

pub load-opens : (schedule : ScheduleData) (allotment : AllotmentData) (memory : MemoryData) → IsRun schedule allotment memory
    → (q j : ℕ) (s : Statement) (place : Place) → slice_get schedule.problem.loop.statements q ≡ Some s → s.opcode ≡ Load → s.place ≡ Some place
    → HasNoStore schedule allotment memory q j place.array (cell_index (pos j +ℤ place.offset))
    → last_landed (sequence_before schedule allotment memory (issue_of schedule.ii schedule.times q j)) (InCell place.array (cell_index (pos j +ℤ place.offset))) (issue_of schedule.ii schedule.times q j) ≡ None
load-opens schedule allotment memory run q j s place there load is_place none =
    let sc = run.belong.scheduled in
    let cycle : ℕ = issue_of schedule.ii schedule.times q j in
    none-landed (sequence_before schedule allotment memory cycle) (InCell place.array (cell_index (pos j +ℤ place.offset))) cycle (λ v d t.
    let is = issued-from_sequence schedule allotment memory cycle v d in
    elim (cases_lt cycle v.start) [
      | inl late ↦ late
      | inr early ↦ absurd (none is.op is.iteration is.statement v is.is_statement (comes-first schedule allotment memory sc q j s place there load is_place v is t early) is.is_write t)
    ])
