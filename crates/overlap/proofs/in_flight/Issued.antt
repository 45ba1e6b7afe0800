-- The writes of the sequence are those of the instances that are issued.
use Rattle.std.proofs.Common.{◌≡◌, ◌⊎◌, ℕ, suc, zero, ◌+◌, ◌-◌, ◌/◌, ◌%◌, ◌<◌, ◌≤◌, ◌&&◌, Bool, true, eqb, ltb, leb, List, [], ◌∷◌, Option, Some, None, refl, sym, ap, ◌∙◌, subst, inl, inr, arith}
use Rattle.std.specs.Prelude.{slice_get, slice_index}
use Rattle.std.specs.List.{Contains, cons_option}
use Rattle.std.proofs.lemmas.Bool.{cases_Bool, cases_lt, and_parts, and_from, eqb-true, eq-eqb, leb-true, ltb-true, le-leb, lt-ltb, cond-true, cond-false}
use Rattle.std.proofs.lemmas.List.Elements.{Contains-append_left, Contains-append_right, Contains-append_cases}
use Rattle.instances.proofs.Issued.{cycle-from_row, instances-are_issued_once, turn-of_issue}
use Rattle.loop_data.specs.declared.language.statement.Statement.{Statement}
use Rattle.loop_data.specs.Run.{MemoryData}
use Rattle.graph.specs.Promises.{issue_of}
use Rattle.kernel.specs.Overlapped.{Write}
use Rattle.overlap.specs.Allotments.{AllotmentData}
use Rattle.loop_schedules.specs.Schedules.{ScheduleData, stage_of}
use Rattle.overlap.specs.Sequence.{write_of_instance, write_now, sequence_in, sequence_before}
use Rattle.overlap.proofs.in_flight.Landing.{contains-cases, contains-head, contains-tail}

-- an instance that is issued before a cycle, with its write
pub record IsIssued (schedule : ScheduleData) (allotment : AllotmentData) (memory : MemoryData) (cycle : ℕ) (w : Write) : Type 0 where
  pub op : ℕ
  pub iteration : ℕ
  pub statement : Statement
  pub is_statement : slice_get schedule.problem.loop.statements op ≡ Some statement
  pub within : iteration < memory.trip
  pub early : issue_of schedule.ii schedule.times op iteration < cycle
  pub is_write : write_of_instance schedule allotment memory.arrays op iteration statement ≡ Some w

-- the test by which an operation is issued in a cycle
abbrev pub is_on : (ii time trip cycle : ℕ) → Bool
is_on ii time trip cycle = eqb (cycle % ii) (time % ii) && leb (time / ii) (cycle / ii) && ltb (cycle / ii) (time / ii + trip)

pub on-parts : (ii time trip cycle : ℕ) → is_on ii time trip cycle ≡ true → (cycle % ii ≡ time % ii) × (time / ii ≤ cycle / ii) × (cycle / ii < time / ii + trip)
on-parts ii time trip cycle on =
    let one = and_parts (eqb (cycle % ii) (time % ii) && leb (time / ii) (cycle / ii)) (ltb (cycle / ii) (time / ii + trip)) on in
    let two = and_parts (eqb (cycle % ii) (time % ii)) (leb (time / ii) (cycle / ii)) one.0 in
    (eqb-true (cycle % ii) (time % ii) two.0, leb-true (time / ii) (cycle / ii) two.1, ltb-true (cycle / ii) (time / ii + trip) one.1)

pub on-from_parts : (ii time trip cycle : ℕ) → (cycle % ii ≡ time % ii) × (time / ii ≤ cycle / ii) × (cycle / ii < time / ii + trip) → is_on ii time trip cycle ≡ true
on-from_parts ii time trip cycle p =
    and_from (eqb (cycle % ii) (time % ii) && leb (time / ii) (cycle / ii)) (ltb (cycle / ii) (time / ii + trip))
    (and_from (eqb (cycle % ii) (time % ii)) (leb (time / ii) (cycle / ii)) (eq-eqb (cycle % ii) (time % ii) p.0) (le-leb (time / ii) (cycle / ii) p.1))
    (lt-ltb (cycle / ii) (time / ii + trip) p.2)

-- what is issued in a cycle

abbrev IsIn : ScheduleData → AllotmentData → MemoryData → ℕ → ℕ → List Statement → Write → Type 0
IsIn schedule allotment memory cycle op statements w =
    (k : ℕ) × (s : Statement) × (slice_get statements k ≡ Some s) × (write_now schedule allotment memory cycle (op + k) s ≡ Some w)

pub option-cases : {X : Type 0} (o : Option X) (xs : List X) (y : X) → Contains (cons_option o xs) y → (o ≡ Some y) ⊎ Contains xs y
option-cases None xs y c = inr c
option-cases (Some x) xs y c = elim (contains-cases x xs y c) [
  | inl e ↦ inl (ap Some e)
  | inr d ↦ inr d
]

option-there : {X : Type 0} (o : Option X) (xs : List X) (y : X) → o ≡ Some y → Contains (cons_option o xs) y
option-there o xs y e = subst (λ p. Contains (cons_option p xs) y) (sym e) (contains-head y xs)

pub option-after : {X : Type 0} (o : Option X) (xs : List X) (y : X) → Contains xs y → Contains (cons_option o xs) y
option-after None xs y c = c
option-after (Some x) xs y c = contains-tail x xs y c

in-from_sequence : (schedule : ScheduleData) (allotment : AllotmentData) (memory : MemoryData) (cycle op : ℕ) (statements : List Statement) (w : Write)
    → Contains (sequence_in schedule allotment memory cycle op statements) w → IsIn schedule allotment memory cycle op statements w
in-from_sequence schedule allotment memory cycle op [] w c = absurd (let l = c.1 in omega arith)
in-from_sequence schedule allotment memory cycle op (s ∷ statements) w c =
    elim (option-cases (write_now schedule allotment memory cycle op s) (sequence_in schedule allotment memory cycle (op + 1) statements) w c) [
      | inl e ↦ (0, s, refl, (let z : op + 0 ≡ op = omega arith in ap (λ n. write_now schedule allotment memory cycle n s) z ∙ e))
      | inr d ↦ let r = in-from_sequence schedule allotment memory cycle (op + 1) statements w d in
          let z : op + suc r.0 ≡ (op + 1) + r.0 = omega arith in
          (suc r.0, r.1, r.2, ap (λ n. write_now schedule allotment memory cycle n r.1) z ∙ r.3)
    ]

sequence-from_in : (schedule : ScheduleData) (allotment : AllotmentData) (memory : MemoryData) (cycle op : ℕ) (statements : List Statement) (k : ℕ) (s : Statement) (w : Write)
    → slice_get statements k ≡ Some s → write_now schedule allotment memory cycle (op + k) s ≡ Some w
    → Contains (sequence_in schedule allotment memory cycle op statements) w
sequence-from_in schedule allotment memory cycle op [] k s w there e = cc
sequence-from_in schedule allotment memory cycle op (x ∷ statements) zero s w there e =
    let same : x ≡ s = cc in
    let z : op ≡ op + 0 = omega arith in
    option-there (write_now schedule allotment memory cycle op x) (sequence_in schedule allotment memory cycle (op + 1) statements) w
    (ap (λ n. write_now schedule allotment memory cycle n x) z ∙ ap (λ y. write_now schedule allotment memory cycle (op + 0) y) same ∙ e)
sequence-from_in schedule allotment memory cycle op (x ∷ statements) (suc k) s w there e =
    let z : (op + 1) + k ≡ op + suc k = omega arith in
    option-after (write_now schedule allotment memory cycle op x) (sequence_in schedule allotment memory cycle (op + 1) statements) w
    (sequence-from_in schedule allotment memory cycle (op + 1) statements k s w there (ap (λ n. write_now schedule allotment memory cycle n s) z ∙ e))

-- an operation of the row and the stages writes in the cycle
pub record IsNow (schedule : ScheduleData) (allotment : AllotmentData) (memory : MemoryData) (cycle op : ℕ) (s : Statement) (w : Write) : Type 0 where
  pub iteration : ℕ
  pub within : iteration < memory.trip
  pub is_cycle : cycle ≡ issue_of schedule.ii schedule.times op iteration
  pub is_write : write_of_instance schedule allotment memory.arrays op iteration s ≡ Some w

now-from_write : (schedule : ScheduleData) (allotment : AllotmentData) (memory : MemoryData) (cycle op : ℕ) (s : Statement) (w : Write)
    → write_now schedule allotment memory cycle op s ≡ Some w → IsNow schedule allotment memory cycle op s w
now-from_write schedule allotment memory cycle op s w e =
    let ii = schedule.ii in
    let time = slice_index schedule.times op in
    let write : Option Write = write_of_instance schedule allotment memory.arrays op (cycle / ii - stage_of schedule op) s in
    elim (cases_Bool (is_on ii time memory.trip cycle)) [
      | inl on ↦
          let p = on-parts ii time memory.trip cycle on in
          let l = p.2 in
          record {
            iteration = cycle / ii - stage_of schedule op;
            within = omega arith;
            is_cycle = cycle-from_row ii time cycle p.0 p.1;
            is_write = sym (cond-true (is_on ii time memory.trip cycle) write None on) ∙ e;
          }
      | inr off ↦ let none : None ≡ Some w = sym (cond-false (is_on ii time memory.trip cycle) write None off) ∙ e in cc
    ]

write-now_at : (schedule : ScheduleData) (allotment : AllotmentData) (memory : MemoryData) (cycle op iteration : ℕ) (s : Statement) → 0 < schedule.ii
    → iteration < memory.trip → issue_of schedule.ii schedule.times op iteration ≡ cycle
    → write_now schedule allotment memory cycle op s ≡ write_of_instance schedule allotment memory.arrays op iteration s
write-now_at schedule allotment memory cycle op iteration s some within at =
    let ii = schedule.ii in
    let time = slice_index schedule.times op in
    let t : cycle / ii ≡ stage_of schedule op + iteration = ap (λ n. n / ii) (sym at) ∙ turn-of_issue ii time iteration some in
    let back : cycle / ii - stage_of schedule op ≡ iteration = omega arith in
    cond-true (is_on ii time memory.trip cycle) (write_of_instance schedule allotment memory.arrays op (cycle / ii - stage_of schedule op) s) None
    (on-from_parts ii time memory.trip cycle ((instances-are_issued_once ii time memory.trip cycle some).1 (iteration, within, sym at)))
    ∙ ap (λ n. write_of_instance schedule allotment memory.arrays op n s) back

-- each write of the sequence is an instance's
pub issued-from_sequence : (schedule : ScheduleData) (allotment : AllotmentData) (memory : MemoryData) (cycle : ℕ) (w : Write)
    → Contains (sequence_before schedule allotment memory cycle) w → IsIssued schedule allotment memory cycle w
issued-from_sequence schedule allotment memory zero w c = absurd (let l = c.1 in omega arith)
issued-from_sequence schedule allotment memory (suc cycle) w c =
    elim (Contains-append_cases (sequence_before schedule allotment memory cycle) (sequence_in schedule allotment memory cycle 0 schedule.problem.loop.statements) w c) [
      | inl before ↦
          let r = issued-from_sequence schedule allotment memory cycle w before in
          let e : issue_of schedule.ii schedule.times r.op r.iteration < cycle = r.early in
          record { op = r.op; iteration = r.iteration; statement = r.statement; is_statement = r.is_statement; within = r.within; early = omega arith; is_write = r.is_write }
      | inr here ↦
          let r = in-from_sequence schedule allotment memory cycle 0 schedule.problem.loop.statements w here in
          let z : 0 + r.0 ≡ r.0 = omega arith in
          let n = now-from_write schedule allotment memory cycle r.0 r.1 w (ap (λ k. write_now schedule allotment memory cycle k r.1) (sym z) ∙ r.3) in
          let e : cycle ≡ issue_of schedule.ii schedule.times r.0 n.iteration = n.is_cycle in
          record { op = r.0; iteration = n.iteration; statement = r.1; is_statement = r.2; within = n.within; early = omega arith; is_write = n.is_write }
    ]

-- and each instance's write is in the sequence
pub sequence-from_issued : (schedule : ScheduleData) (allotment : AllotmentData) (memory : MemoryData) (cycle : ℕ) (w : Write) → 0 < schedule.ii
    → (op iteration : ℕ) (s : Statement) → slice_get schedule.problem.loop.statements op ≡ Some s → iteration < memory.trip
    → issue_of schedule.ii schedule.times op iteration < cycle → write_of_instance schedule allotment memory.arrays op iteration s ≡ Some w
    → Contains (sequence_before schedule allotment memory cycle) w
sequence-from_issued schedule allotment memory zero w some op iteration s there within early e = absurd (omega arith)
sequence-from_issued schedule allotment memory (suc cycle) w some op iteration s there within early e =
    elim (cases_lt (issue_of schedule.ii schedule.times op iteration) cycle) [
      | inl before ↦
          Contains-append_left (sequence_before schedule allotment memory cycle) (sequence_in schedule allotment memory cycle 0 schedule.problem.loop.statements) w
          (sequence-from_issued schedule allotment memory cycle w some op iteration s there within before e)
      | inr after ↦
          let at : issue_of schedule.ii schedule.times op iteration ≡ cycle = omega arith in
          let z : 0 + op ≡ op = omega arith in
          Contains-append_right (sequence_before schedule allotment memory cycle) (sequence_in schedule allotment memory cycle 0 schedule.problem.loop.statements) w
          (sequence-from_in schedule allotment memory cycle 0 schedule.problem.loop.statements op s w there
          (ap (λ k. write_now schedule allotment memory cycle k s) z ∙ write-now_at schedule allotment memory cycle op iteration s some within at ∙ e))
    ]
