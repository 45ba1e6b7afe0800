-- A scheduled loop with its allotment is a run of lists of values.
use Rattle.std.proofs.Common.{◌≡◌, ℕ, suc, ◌+◌, ◌*◌, ◌<◌, ◌≤◌, true, false, List, [], ◌∷◌, length, get_or, map, Some, ℤ, refl, sym, ap, ◌∙◌, subst, inl, inr, arith}
use Rattle.std.specs.Prelude.{option_map, slice_get, slice_index, is_some, ◌==◌}
use Rattle.std.specs.List.{Contains}
use Rattle.std.proofs.lemmas.List.{get_or-map, length-map}
use Rattle.std.proofs.lemmas.List.Elements.{All-contains, All-filter, All-get_or, All-map, Contains-append_cases, Contains-get_or}
use Rattle.std.proofs.lemmas.Option.{get_or_from_slice_get, same_Some, slice_get-get_or, slice_get-map, slice_get_within}
use Rattle.std.proofs.Math.Nat.{div-lt_iff_lt-mul}
use Rattle.loop_data.specs.declared.language.statement.Operand.TheVariants as operand
use Rattle.loop_data.specs.declared.language.statement.Statement.{Statement}
use Rattle.loop_data.specs.Loops.{LoopData, MayRead}
use Rattle.loop_data.proofs.Instances.{slice_get-within}
use Rattle.graph.specs.Dependences.{Uses}
use Rattle.graph.proofs.finding.Promised.{values-in_time}
use Rattle.registers.specs.declared.value.Value.{Value}
use Rattle.registers.specs.declared.value.Read.{Read}
use Rattle.registers.specs.Physical.{physical}
use Rattle.registers.specs.Values as list
use Rattle.registers.specs.Values.{IsValue, IsRead, landing_of, read_at}
use Rattle.loop_schedules.specs.Schedules.{ScheduleData}
use Rattle.instances.specs.Runs.{InRegister, Rotates, Unallotted, RunData, AreHomes, IsRun, carried_by, place_in, place_of, value_of}
use Rattle.overlap.specs.Allotments.{AllotmentData, allotted_number}
use Rattle.overlap.specs.Lifetimes.{Use, carried, lifetime_of, lifetimes_of, rank_of, uses_of, values_of}
use Rattle.overlap.specs.LoopValues.{value_of_loop, values_of_loop, reads_by, reads_from, reads_of_loop, end_of}
use Rattle.overlap.specs.Overlap.{Belong}
use Rattle.overlap.proofs.in_flight.Writes.{keeps-dependences}
use Rattle.overlap.proofs.in_registers.Lives.{contains-map, contains-map_back, use-back, use-is, value-at_rank, value-back, values-few, lands-by_last}
use Rattle.overlap.proofs.in_registers.OfValues.{carried-same, reads-of_value, lifetimes-are_of_values}

abbrev pub run_of : ScheduleData → AllotmentData → RunData
run_of schedule allotment = record {
  ii = schedule.ii;
  times = schedule.times;
  end = end_of schedule;
  values = values_of_loop schedule.problem.loop schedule.problem.graph.latencies;
  reads = reads_of_loop schedule.problem.loop;
  homes = map (Rotates 0 allotment.registers) allotment.numbers;
}

-- reads are uses

pub contains-at : {X : Type 0} (xs : List X) (k : ℕ) (x : X) → slice_get xs k ≡ Some x → Contains xs x
contains-at xs k x e = (k, slice_get_within xs k x e, get_or_from_slice_get xs k x x e)

abbrev pub read_of : (value reader distance : ℕ) → Read
read_of value reader distance = record { value = value; reader = reader; distance = distance; offset = 0 }

pub read-of_use : (loop : LoopData) (v x q d : ℕ) → slice_get (values_of loop) v ≡ Some x → Uses loop q x d
    → (n : ℕ) × (slice_get (reads_of_loop loop) n ≡ Some (read_of v q d))
read-of_use loop v x q d listed u =
    let reads : List Read = reads_of_loop loop in
    let r : Read = read_of v q d in
    let one : Contains (reads_by v (uses_of loop x)) r
    = contains-map (λ (y : Use). read_of v y.reader y.distance) (uses_of loop x) (record { reader = q; distance = d }) (use-is loop x q d u) in
    let c = All-contains (Contains reads) (list.reads_of reads v) r (All-filter (λ (y : Read). y.value == v) (Contains reads) reads (Contains-get_or reads))
    (subst (λ (rs : List Read). Contains rs r) (sym (reads-of_value loop v x listed)) one) in
    (c.0, slice_get-get_or reads c.0 r c.1 ∙ ap Some c.2)

abbrev IsUse : LoopData → Read → Type 0
IsUse loop r = (x : ℕ) × (slice_get (values_of loop) r.value ≡ Some x) × Uses loop r.reader x r.distance × (r.offset ≡ 0)

use-from : (loop : LoopData) (number : ℕ) (statements : List ℕ) → ((k x : ℕ) → slice_get statements k ≡ Some x → slice_get (values_of loop) (number + k) ≡ Some x)
    → (r : Read) → Contains (reads_from loop number statements) r → IsUse loop r
use-from loop number [] listed r c = absurd (let l = c.1 in omega arith)
use-from loop number (x ∷ statements) listed r c = elim (Contains-append_cases (reads_by number (uses_of loop x)) (reads_from loop (number + 1) statements) r c) [
  | inl here ↦
      let m = contains-map_back (λ (y : Use). read_of number y.reader y.distance) (uses_of loop x) r here in
      let z : number + 0 ≡ number = omega arith in
      subst (IsUse loop) m.2 (x, ap (slice_get (values_of loop)) (sym z) ∙ listed 0 x refl, use-back loop x m.0 m.1, refl)
  | inr after ↦ use-from loop (number + 1) statements
      (λ k y e. ap (slice_get (values_of loop)) (let z : (number + 1) + k ≡ number + suc k = omega arith in z) ∙ listed (suc k) y e) r after
]

use-of_read : (loop : LoopData) (r : Read) → Contains (reads_of_loop loop) r → IsUse loop r
use-of_read loop = use-from loop 0 (values_of loop) (λ k x e. ap (slice_get (values_of loop)) (let z : 0 + k ≡ k = omega arith in z) ∙ e)

-- homes

file-same : (file registers number other more last : ℕ) → Rotates file registers number ≡ Rotates other more last → (registers ≡ more) × (number ≡ last)
file-same file registers number other more last e = (cc, cc)

register-same : (m n : ℕ) → InRegister 0 m ≡ InRegister 0 n → m ≡ n
register-same m n e = cc

module _ (schedule : ScheduleData) (allotment : AllotmentData) (b : Belong schedule allotment) where
  -- the values of the run
  pub value-listed : (v x : ℕ) → slice_get (values_of schedule.problem.loop) v ≡ Some x
      → slice_get (run_of schedule allotment).values v ≡ Some (value_of_loop schedule.problem.loop schedule.problem.graph.latencies x)
  value-listed v x there = slice_get-map (value_of_loop schedule.problem.loop schedule.problem.graph.latencies) (values_of schedule.problem.loop) v ∙ ap (option_map (value_of_loop schedule.problem.loop schedule.problem.graph.latencies)) there

  pub value-is : (v x : ℕ) → slice_get (values_of schedule.problem.loop) v ≡ Some x
      → value_of (run_of schedule allotment) v ≡ value_of_loop schedule.problem.loop schedule.problem.graph.latencies x
  value-is v x there =
      get_or_from_slice_get (run_of schedule allotment).values v (value_of_loop schedule.problem.loop schedule.problem.graph.latencies x) (record { maker = 0; lands = 0; out = false }) (value-listed v x there)

  pub value-within : (v x : ℕ) → slice_get (values_of schedule.problem.loop) v ≡ Some x → v < length (run_of schedule allotment).values
  value-within v x there = slice_get_within (run_of schedule allotment).values v (value_of_loop schedule.problem.loop schedule.problem.graph.latencies x) (value-listed v x there)

  statement-of : (x : ℕ) → Contains (values_of schedule.problem.loop) x → (s : Statement) × (slice_get schedule.problem.loop.statements x ≡ Some s)
  statement-of x c =
      let back = value-back 0 schedule.problem.loop.statements x c in
      let e = back.3 in
      let same : x ≡ back.0 = omega arith in
      (back.1, ap (slice_get schedule.problem.loop.statements) same ∙ back.2)

  many-times : length schedule.times ≡ length schedule.problem.loop.statements
  many-times = b.scheduled.lawful.plan.each_time ∙ b.scheduled.problem.each_operation

  is-value : (x : ℕ) → Contains (values_of schedule.problem.loop) x → IsValue (length schedule.times) (value_of_loop schedule.problem.loop schedule.problem.graph.latencies x)
  is-value x c =
      let problem = b.scheduled.problem in
      let s = statement-of x c in
      let within = slice_get-within schedule.problem.loop.statements x s.0 s.1 in
      let many = many-times in
      let a = problem.each_operation in
      let long = problem.is_problem.each_latency in
      record { maker = omega arith; lands = (All-get_or (λ l. (0 < l) × (l ≤ 64)) schedule.problem.graph.latencies x 0 (omega arith) problem.is_problem.graph.latencies).1 }

  is-read : (r : Read) → Contains (reads_of_loop schedule.problem.loop) r → IsRead (length schedule.times) (length (run_of schedule allotment).values) r
  is-read r c =
      let loop = schedule.problem.loop in
      let u = use-of_read loop r c in
      let s = u.2 in
      let reader = slice_get-within loop.statements r.reader s.0 s.1 in
      let may = All-contains (MayRead loop r.reader) s.0.operands (operand.Value u.0 r.distance) (b.scheduled.problem.loop.each r.reader s.0 s.1).operands s.2 in
      let many = many-times in
      let at = u.3 in
      record { value = value-within r.value u.0 u.1; reader = omega arith; distance = may.1; offset = omega arith }

  in-time : (k : ℕ) (r : Read) (value : Value) → slice_get (reads_of_loop schedule.problem.loop) k ≡ Some r → slice_get (run_of schedule allotment).values r.value ≡ Some value
      → landing_of schedule.times value ≤ read_at schedule.ii schedule.times r
  in-time k r value there is =
      let loop = schedule.problem.loop in
      let latencies = schedule.problem.graph.latencies in
      let u = use-of_read loop r (contains-at (reads_of_loop loop) k r there) in
      let lands = ap (landing_of schedule.times) (same_Some value (value_of_loop loop latencies u.0) (sym is ∙ value-listed r.value u.0 u.1)) in
      let t = values-in_time loop latencies schedule.ii schedule.times (keeps-dependences schedule b.scheduled) u.0 r.reader r.distance 0 u.2 in
      let none : schedule.ii * 0 ≡ 0 = omega arith in
      let first : schedule.ii * (0 + r.distance) ≡ schedule.ii * r.distance = ap (λ n. schedule.ii * n) (let x : 0 + r.distance ≡ r.distance = omega arith in x) in
      let at = u.3 in
      omega arith

  -- their homes
  number-at : (v : ℕ) → v < length allotment.numbers → slice_get (run_of schedule allotment).homes v ≡ Some (Rotates 0 allotment.registers (slice_index allotment.numbers v))
  number-at v within = slice_get-map (Rotates 0 allotment.registers) allotment.numbers v ∙ ap (option_map (Rotates 0 allotment.registers)) (slice_get-get_or allotment.numbers v 0 within)

  are-homes : AreHomes (run_of schedule allotment).homes
  are-homes v file registers number there =
      let long = slice_get_within (run_of schedule allotment).homes v (Rotates file registers number) there in
      let e = length-map allotment.numbers (Rotates 0 allotment.registers) in
      let within : v < length allotment.numbers = omega arith in
      let same = file-same 0 allotment.registers (slice_index allotment.numbers v) file registers number
      (same_Some (Rotates 0 allotment.registers (slice_index allotment.numbers v)) (Rotates file registers number) (sym (number-at v within) ∙ there)) in
      let few : slice_index allotment.numbers v < allotment.registers = b.suits.there v 0 within in
      omega arith

  place-is : (v : ℕ) (i : ℤ) → v < length allotment.numbers
      → place_of (run_of schedule allotment) v i ≡ InRegister 0 (physical allotment.registers (slice_index allotment.numbers v) i)
  place-is v i within =
      ap (λ home. place_in home v i) (get_or-map (Rotates 0 allotment.registers) allotment.numbers v 0 Unallotted within)

  many-homes : length (run_of schedule allotment).homes ≡ length (run_of schedule allotment).values
  unfolding lifetimes_of
  many-homes =
      length-map allotment.numbers (Rotates 0 allotment.registers) ∙ b.suits.each ∙ length-map (values_of schedule.problem.loop) (lifetime_of schedule)
      ∙ sym (length-map (values_of schedule.problem.loop) (value_of_loop schedule.problem.loop schedule.problem.graph.latencies))

  pub is-run : IsRun (run_of schedule allotment)
  is-run =
      let loop = schedule.problem.loop in
      let sc = b.scheduled in
      let many = many-times in
      let latencies = schedule.problem.graph.latencies in
      let of_loop : ℕ → Value = value_of_loop loop latencies in
      let same = lifetimes-are_of_values schedule in
      record {
        lists = record {
          some = sc.ii_some;
          few = sc.ii_few;
          operations = let few = sc.problem.loop.statements_few in omega arith;
          issued = λ i d h. (div-lt_iff_lt-mul sc.ii_some).0 (sc.stages i d h);
          size = let few = sc.problem.loop.statements_few in let v = values-few 0 loop.statements in let e = length-map (values_of loop) of_loop in omega arith;
          each_value = All-map (IsValue (length schedule.times)) of_loop (values_of loop) (λ i d h. is-value (get_or (values_of loop) i d) (Contains-get_or (values_of loop) i d h));
          each_read = λ i d h. is-read (get_or (reads_of_loop loop) i d) (Contains-get_or (reads_of_loop loop) i d h);
        };
        in_time = in-time;
        each_home = many-homes;
        homes = are-homes;
        lasts = All-map (λ value. landing_of schedule.times value ≤ end_of schedule) of_loop (values_of loop) (λ i d h.
            let s = statement-of (get_or (values_of loop) i d) (Contains-get_or (values_of loop) i d h) in
            let l = lands-by_last schedule sc (get_or (values_of loop) i d) s.0 s.1 in
            omega arith);
        apart = λ v w i j meet.
            let one = ap (λ l. slice_get l v) same ∙ meet.is_one in
            let other = ap (λ l. slice_get l w) same ∙ meet.is_other in
            let in_v = slice_get_within (lifetimes_of schedule) v meet.one one in
            let in_w = slice_get_within (lifetimes_of schedule) w meet.other other in
            let each = b.suits.each in
            b.suits.apart v w i j (record {
              one = meet.one;
              is_one = one;
              other = meet.other;
              is_other = other;
              same_register = register-same (physical allotment.registers (slice_index allotment.numbers v) i) (physical allotment.registers (slice_index allotment.numbers w) j)
                  (sym (place-is v i (omega arith)) ∙ meet.same_place ∙ place-is w j (omega arith));
              cycle = meet.cycle;
              one_lives = meet.one_lives;
              other_lives = meet.other_lives;
            });
      }

-- the value of a statement that gives one: its number, the places of its instances, and how far it is carried
module _ (schedule : ScheduleData) (allotment : AllotmentData) (b : Belong schedule allotment) (x : ℕ) (s : Statement) (there : slice_get schedule.problem.loop.statements x ≡ Some s) (named : is_some s.name ≡ true) where
  pub rank-within : rank_of schedule.problem.loop x < length (run_of schedule allotment).values
  rank-within = value-within schedule allotment b (rank_of schedule.problem.loop x) x (value-at_rank schedule.problem.loop x s there named)

  pub rank-place : (i : ℤ) → place_of (run_of schedule allotment) (rank_of schedule.problem.loop x) i ≡ InRegister 0 (physical allotment.registers (allotted_number schedule.problem.loop allotment x) i)
  rank-place i =
      let within = rank-within in
      let e = length-map allotment.numbers (Rotates 0 allotment.registers) in
      let many = many-homes schedule allotment b in
      place-is schedule allotment b (rank_of schedule.problem.loop x) i (omega arith)

  pub rank-carried : carried_by (run_of schedule allotment) (rank_of schedule.problem.loop x) ≡ carried schedule.problem.loop x
  rank-carried =
      let loop = schedule.problem.loop in
      let at = value-at_rank loop x s there named in
      ap (λ (v : Value). list.carried (reads_of_loop loop) (rank_of loop x) v.out) (value-is schedule allotment b (rank_of loop x) x at) ∙ carried-same loop (rank_of loop x) x at
