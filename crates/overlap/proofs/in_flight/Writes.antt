-- What an instance writes: a value into its register, or a cell.
use Rattle.std.proofs.Common.{◌≡◌, ◌⊎◌, ℕ, ◌+◌, ◌<◌, ◌≤◌, true, List, Option, Some, None, ℤ, pos, ◌+ℤ◌, refl, sym, ap, ◌∙◌, subst, inl, inr, arith}
use Rattle.std.specs.Prelude.{slice_get, slice_index, is_some, IsSome}
use Rattle.std.proofs.lemmas.Bool.{cases_Bool, cond-true, cond-false, true≢false}
use Rattle.std.proofs.lemmas.List.Elements.{All-contains, All-get_or}
use Rattle.machine_data.specs.declared.opcode.Opcode.{Opcode}
use Rattle.machine_data.specs.declared.opcode.Opcode.TheVariants.{Store}
use Rattle.loop_data.specs.declared.language.statement.Statement.{Statement}
use Rattle.loop_data.specs.declared.language.statement.Place.{Place}
use Rattle.loop_data.specs.Loops.{HasShape}
use Rattle.loop_data.specs.Run.{writes, first_of, cell_index}
use Rattle.edges.specs.Schedules.{KeepsEdge}
use Rattle.graph.specs.Promises.{KeepsDependences, issue_of}
use Rattle.kernel.specs.Overlapped.{Target, InRegister, InCell, Write, physical}
use Rattle.overlap.specs.Allotments.{AllotmentData, allotted_number}
use Rattle.loop_schedules.specs.Schedules.{ScheduleData, IsSchedule}
use Rattle.overlap.specs.Sequence.{read_by, given_by, stored_by, made_by, write_by_opcode, write_of_instance}
use Rattle.loop_data.proofs.Instances.{slice_get-within}

-- a schedule keeps the dependences of its loop
pub keeps-dependences : (schedule : ScheduleData) → IsSchedule schedule → KeepsDependences schedule.problem.loop schedule.problem.graph.latencies schedule.ii schedule.times
keeps-dependences schedule s = λ e d. All-contains (KeepsEdge schedule.ii schedule.times) schedule.problem.graph.edges e s.lawful.keeps_edges (s.problem.complete e d)

-- each operation takes a cycle at least
pub takes-time : (schedule : ScheduleData) → IsSchedule schedule → (op : ℕ) (s : Statement) → slice_get schedule.problem.loop.statements op ≡ Some s → 0 < slice_index schedule.problem.graph.latencies op
takes-time schedule sc op s there =
    let within = slice_get-within schedule.problem.loop.statements op s there in
    let long = sc.problem.is_problem.each_latency in
    let many = sc.problem.each_operation in
    (All-get_or (λ l. (0 < l) × (l ≤ 64)) schedule.problem.graph.latencies op 0 (omega arith) sc.problem.is_problem.graph.latencies).0

-- a store, or an operation that gives a value
pub kinds : (opcode : Opcode) → (opcode ≡ Store)
    ⊎ (((schedule : ScheduleData) (allotment : AllotmentData) (arrays : List (List ℤ)) (op j : ℕ) (s : Statement) → write_by_opcode schedule allotment arrays op j opcode s ≡ made_by schedule allotment arrays op j s)
    × ((s : Statement) → HasShape opcode s → IsSome s.name))
kinds Store = inl refl
kinds opcode = inr (λ schedule allotment arrays op j s. refl, λ s h. h.0)

abbrev IsCell : Target → Type 0
IsCell (InCell a i) = Unit {0}
IsCell (InRegister r) = ⊥

register-target : (m n : ℕ) → InRegister m ≡ InRegister n → m ≡ n
register-target m n e = cc

not-both : (m a i : ℕ) → InCell a i ≡ InRegister m → ⊥
not-both m a i e = subst IsCell e tt

-- a store's write is of a cell
pub record IsStored (schedule : ScheduleData) (arrays : List (List ℤ)) (op j : ℕ) (s : Statement) (w : Write) : Type 0 where
  pub place : Place
  pub is_place : s.place ≡ Some place
  pub on : writes (read_by schedule.problem.loop arrays op j s) ≡ true
  pub target : w.target ≡ InCell place.array (cell_index (pos j +ℤ place.offset))
  pub value : w.value ≡ first_of (read_by schedule.problem.loop arrays op j s)
  pub start : w.start ≡ issue_of schedule.ii schedule.times op j + slice_index schedule.problem.graph.latencies op

stored-is : (schedule : ScheduleData) (arrays : List (List ℤ)) (op j : ℕ) (s : Statement) (o : Option Place) (w : Write) → s.place ≡ o → stored_by schedule arrays op j s o ≡ Some w → IsStored schedule arrays op j s w
stored-is schedule arrays op j s None w p e = cc
stored-is schedule arrays op j s (Some place) w p e =
    let reads : List ℤ = read_by schedule.problem.loop arrays op j s in
    let made : Write = record {
      target = InCell place.array (cell_index (pos j +ℤ place.offset));
      value = first_of reads;
      start = issue_of schedule.ii schedule.times op j + slice_index schedule.problem.graph.latencies op;
    } in
    elim (cases_Bool (writes reads)) [
      | inl on ↦
          let x : Some made ≡ Some w = sym (cond-true (writes reads) (Some made) None on) ∙ e in
          let y : w ≡ made = cc in
          record {
            place = place;
            is_place = p;
            on = on;
            target = ap (λ (v : Write). v.target) y;
            value = ap (λ (v : Write). v.value) y;
            start = ap (λ (v : Write). v.start) y;
          }
      | inr off ↦ let x : None ≡ Some w = sym (cond-false (writes reads) (Some made) None off) ∙ e in cc
    ]

-- what a write is, by its instance
pub data Kind (schedule : ScheduleData) (allotment : AllotmentData) (arrays : List (List ℤ)) (op j : ℕ) (s : Statement) (w : Write) : Type 0 where
  made : s.name ≡ s.name → is_some s.name ≡ true → w.target ≡ InRegister (physical allotment.registers (allotted_number schedule.problem.loop allotment op) (pos j))
      → w.start ≡ issue_of schedule.ii schedule.times op j + slice_index schedule.problem.graph.latencies op → Kind schedule allotment arrays op j s w
  stored : s.opcode ≡ Store → IsStored schedule arrays op j s w → Kind schedule allotment arrays op j s w

pub kind-of : (schedule : ScheduleData) (allotment : AllotmentData) (arrays : List (List ℤ)) (op j : ℕ) (s : Statement) (w : Write) → HasShape s.opcode s
    → write_of_instance schedule allotment arrays op j s ≡ Some w → Kind schedule allotment arrays op j s w
unfolding write_of_instance
kind-of schedule allotment arrays op j s w shape e = elim (kinds s.opcode) [
  | inl store ↦ stored store (stored-is schedule arrays op j s s.place w refl (sym (ap (λ o. write_by_opcode schedule allotment arrays op j o s) store) ∙ e))
  | inr other ↦
      let v : Write = record {
        target = InRegister (physical allotment.registers (allotted_number schedule.problem.loop allotment op) (pos j));
        value = given_by schedule.problem.loop arrays op j s;
        start = issue_of schedule.ii schedule.times op j + slice_index schedule.problem.graph.latencies op;
      } in
      let x : Some v ≡ Some w = sym (other.0 schedule allotment arrays op j s) ∙ e in
      let y : w ≡ v = cc in
      made refl (other.1 s shape) (ap (λ (u : Write). u.target) y) (ap (λ (u : Write). u.start) y)
]

-- a statement with a name makes its value
no-name : (s : Statement) → HasShape Store s → is_some s.name ≡ true → ⊥
no-name s h e = true≢false (sym e ∙ h.0)

pub makes-value : (schedule : ScheduleData) (allotment : AllotmentData) (arrays : List (List ℤ)) (op j : ℕ) (s : Statement) → HasShape s.opcode s → is_some s.name ≡ true
    → write_of_instance schedule allotment arrays op j s ≡ made_by schedule allotment arrays op j s
unfolding write_of_instance
makes-value schedule allotment arrays op j s shape named = elim (kinds s.opcode) [
  | inl store ↦ absurd (no-name s (subst (λ o. HasShape o s) store shape) named)
  | inr other ↦ other.0 schedule allotment arrays op j s
]

-- a write into a register
pub into-register : (schedule : ScheduleData) (allotment : AllotmentData) (arrays : List (List ℤ)) (op j : ℕ) (s : Statement) (w : Write) (r : ℕ) → HasShape s.opcode s
    → write_of_instance schedule allotment arrays op j s ≡ Some w → w.target ≡ InRegister r
    → (is_some s.name ≡ true) × (r ≡ physical allotment.registers (allotted_number schedule.problem.loop allotment op) (pos j)) × (w.start ≡ issue_of schedule.ii schedule.times op j + slice_index schedule.problem.graph.latencies op)
into-register schedule allotment arrays op j s w r shape e t = elim (kind-of schedule allotment arrays op j s w shape e) [
  | made _ named target start ↦ (named, register-target r (physical allotment.registers (allotted_number schedule.problem.loop allotment op) (pos j)) (sym t ∙ target), start)
  | stored _ is ↦ absurd (not-both r is.place.array (cell_index (pos j +ℤ is.place.offset)) (sym is.target ∙ t))
]

-- a write into a cell
pub into-cell : (schedule : ScheduleData) (allotment : AllotmentData) (arrays : List (List ℤ)) (op j : ℕ) (s : Statement) (w : Write) (a i : ℕ) → HasShape s.opcode s
    → write_of_instance schedule allotment arrays op j s ≡ Some w → w.target ≡ InCell a i
    → (s.opcode ≡ Store) × IsStored schedule arrays op j s w
into-cell schedule allotment arrays op j s w a i shape e t = elim (kind-of schedule allotment arrays op j s w shape e) [
  | made _ named target start ↦ absurd (not-both (physical allotment.registers (allotted_number schedule.problem.loop allotment op) (pos j)) a i (sym t ∙ target))
  | stored store is ↦ (store, is)
]
