-- Lifetimes end no earlier than they begin, and within 2^32 cycles.
use Rattle.std.proofs.Common.{◌≡◌, ℕ, suc, zero, ◌+◌, ◌*◌, ◌/◌, ◌%◌, ◌<◌, ◌≤◌, max, List, [], ◌∷◌, get_or, map, zip, refl, ap, inl, inr, arith}
use Rattle.std.specs.Prelude.{slice_index}
use Rattle.std.specs.List.{All, Contains}
use Rattle.std.proofs.lemmas.Bool.{cases_Bool, cond-true, cond-false}
use Rattle.std.proofs.lemmas.List.Elements.{All-contains, All-nil, All-cons}
use Rattle.std.proofs.Math.Nat.{mul-le-mul_left, div-add-mod', mod-lt}
use Rattle.loop_data.specs.declared.language.statement.Operand.TheVariants.{Value}
use Rattle.loop_data.specs.Loops.{MayRead}
use Rattle.graph.specs.Dependences.{Uses}
use Rattle.unit_bound.specs.Units.{greatest_of}
use Rattle.graph.proofs.finding.Promised.{values-in_time}
use Rattle.overlap.specs.Lifetimes.{uses_of, is_out, landing_of, read_at, last_read, last_landing, lifetime_of, lifetimes_of, values_of}
use Rattle.loop_schedules.specs.Schedules.{ScheduleData, IsSchedule, stages_of}
use Rattle.registers.specs.Residues.{IsLifeSpan}
use Rattle.overlap.proofs.in_registers.Lives.{contains-map_back, use-back, begins-by_landing, lasts-to_landing}
use Rattle.overlap.proofs.in_flight.Landing.{contains-head, contains-tail}
use Rattle.overlap.proofs.in_flight.Writes.{keeps-dependences}

greatest-within : (ns : List ℕ) (n : ℕ) → ((m : ℕ) → Contains ns m → m ≤ n) → greatest_of ns ≤ n
greatest-within [] n all = omega arith
greatest-within (m ∷ ns) n all = let h = all m (contains-head m ns) in let r = greatest-within ns n (λ k c. all k (contains-tail m ns k c)) in omega arith

quotient-few : (t ii : ℕ) → 1 ≤ ii → ii ≤ 16384 → t / ii < 64 → t < 1048576
quotient-few t ii some few q =
    let d : (t / ii) * ii + t % ii ≡ t = div-add-mod' t ii in
    let m : t % ii < ii = mod-lt t some in
    let a : ii * (t / ii) ≤ ii * 63 = mul-le-mul_left ii (omega arith) in
    let b : (t / ii) * ii ≡ ii * (t / ii) = omega arith in
    omega arith

index-few : (xs : List ℕ) (n k : ℕ) → All (λ x. x ≤ n) xs → slice_index xs k ≤ n
index-few [] n k all = omega arith
index-few (x ∷ xs) n zero all = all 0 0 (omega arith)
index-few (x ∷ xs) n (suc k) all = index-few xs n k (λ i d h. all (suc i) d (omega arith))

pub time-few : (schedule : ScheduleData) → IsSchedule schedule → (k : ℕ) → slice_index schedule.times k ≤ 1048576
time-few schedule is k = index-few schedule.times 1048576 k (λ i d h. let q = quotient-few (get_or schedule.times i d) schedule.ii is.ii_some is.ii_few (is.stages i d h) in omega arith)

pub latency-few : (schedule : ScheduleData) → IsSchedule schedule → (k : ℕ) → slice_index schedule.problem.graph.latencies k ≤ 64
latency-few schedule is k = index-few schedule.problem.graph.latencies 64 k (λ i d h. (is.problem.is_problem.graph.latencies i d h).1)

pub distance-few : (schedule : ScheduleData) → IsSchedule schedule → (value reader distance : ℕ) → Uses schedule.problem.loop reader value distance → distance ≤ 16
distance-few schedule is value reader distance u =
    let may : MayRead schedule.problem.loop reader (Value value distance)
    = All-contains (MayRead schedule.problem.loop reader) u.0.operands (Value value distance) (is.problem.loop.each reader u.0 u.1).operands u.2 in
    may.1

pub read-few : (schedule : ScheduleData) → IsSchedule schedule → (value reader distance : ℕ) → Uses schedule.problem.loop reader value distance
    → slice_index schedule.times reader + schedule.ii * distance ≤ 1310720
read-few schedule is value reader distance u =
    let d = distance-few schedule is value reader distance u in
    let t = time-few schedule is reader in
    let m : schedule.ii * distance ≤ schedule.ii * 16 = mul-le-mul_left schedule.ii d in
    let f = is.ii_few in
    omega arith

last-few : (landing n : ℕ) (reads : List ℕ) → landing ≤ n → ((m : ℕ) → Contains reads m → m ≤ n) → last_read landing reads ≤ n
last-few landing n [] le all = le
last-few landing n (r ∷ reads) le all = greatest-within (r ∷ reads) n all

sums-few : (ts ls : List ℕ) (n : ℕ) → All (λ t. t ≤ 1048576) ts → All (λ l. l ≤ 64) ls → n ≡ 1048640 → greatest_of (map (λ (p : ℕ × ℕ). p.0 + p.1) (zip ts ls)) ≤ n
sums-few [] ls n a b e = omega arith
sums-few (t ∷ ts) [] n a b e = omega arith
sums-few (t ∷ ts) (l ∷ ls) n a b e =
    let h : t ≤ 1048576 = a 0 0 (omega arith) in
    let k : l ≤ 64 = b 0 0 (omega arith) in
    let r = sums-few ts ls n (λ i d g. a (suc i) d (omega arith)) (λ i d g. b (suc i) d (omega arith)) e in
    omega arith

pub landing-few : (schedule : ScheduleData) → IsSchedule schedule → last_landing schedule ≤ 1048640
landing-few schedule is = sums-few schedule.times schedule.problem.graph.latencies 1048640
    (λ i d h. let q = quotient-few (get_or schedule.times i d) schedule.ii is.ii_some is.ii_few (is.stages i d h) in omega arith)
    (λ i d h. (is.problem.is_problem.graph.latencies i d h).1) refl

greatest-stage : (ts : List ℕ) (ii : ℕ) → All (λ t. t / ii < 64) ts → greatest_of (map (λ t. t / ii) ts) ≤ 63
greatest-stage [] ii all = omega arith
greatest-stage (t ∷ ts) ii all = let h : t / ii < 64 = all 0 0 (omega arith) in let r = greatest-stage ts ii (λ i d g. all (suc i) d (omega arith)) in omega arith

pub end-few : (schedule : ScheduleData) → IsSchedule schedule → schedule.ii * stages_of schedule ≤ 1048576
end-few schedule is =
    let g = greatest-stage schedule.times schedule.ii is.stages in
    let m : schedule.ii * stages_of schedule ≤ schedule.ii * 64 = mul-le-mul_left schedule.ii (omega arith) in
    let f = is.ii_few in
    omega arith

span-of : (schedule : ScheduleData) → IsSchedule schedule → (value : ℕ) → IsLifeSpan (lifetime_of schedule value)
span-of schedule is value =
    let b = begins-by_landing schedule value in
    let l = lasts-to_landing values-in_time schedule (keeps-dependences schedule is) value in
    let t = time-few schedule is value in
    let k = latency-few schedule is value in
    let e = end-few schedule is in
    let g = landing-few schedule is in
    let r = last-few (landing_of schedule value) 1310720 (map (read_at schedule) (uses_of schedule.problem.loop value)) (omega arith)
    (λ m c. let u = contains-map_back (read_at schedule) (uses_of schedule.problem.loop value) m c in
    let z = read-few schedule is value u.0.reader u.0.distance (use-back schedule.problem.loop value u.0 u.1) in
    let y = u.2 in omega arith) in
    record {
      ordered = omega arith;
      short = elim (cases_Bool (is_out schedule.problem.loop value)) [
        | inl on ↦ let x = cond-true (is_out schedule.problem.loop value) (max (schedule.ii * stages_of schedule) (last_landing schedule)) 0 on in omega arith
        | inr off ↦ let x = cond-false (is_out schedule.problem.loop value) (max (schedule.ii * stages_of schedule) (last_landing schedule)) 0 off in omega arith
      ];
    }

spans-of : (schedule : ScheduleData) → IsSchedule schedule → (values : List ℕ) → All IsLifeSpan (map (lifetime_of schedule) values)
spans-of schedule is [] = All-nil IsLifeSpan
spans-of schedule is (value ∷ values) = All-cons IsLifeSpan (lifetime_of schedule value) (map (lifetime_of schedule) values) (span-of schedule is value) (spans-of schedule is values)

pub are-spans : (schedule : ScheduleData) → IsSchedule schedule → All IsLifeSpan (lifetimes_of schedule)
unfolding lifetimes_of
are-spans schedule is = spans-of schedule is (values_of schedule.problem.loop)

-- the greatest of the landing and the reads is the last read

last-is_greatest : (landing : ℕ) (reads : List ℕ) → ((read : ℕ) → Contains reads read → landing ≤ read) → max landing (greatest_of reads) ≡ last_read landing reads
last-is_greatest landing [] all = omega arith
last-is_greatest landing (r ∷ reads) all = let h = all r (contains-head r reads) in omega arith

pub read-last : (schedule : ScheduleData) → IsSchedule schedule → (value : ℕ)
    → max (landing_of schedule value) (greatest_of (map (read_at schedule) (uses_of schedule.problem.loop value))) ≡ last_read (landing_of schedule value) (map (read_at schedule) (uses_of schedule.problem.loop value))
read-last schedule is value = last-is_greatest (landing_of schedule value) (map (read_at schedule) (uses_of schedule.problem.loop value)) (λ read c.
    let m = contains-map_back (read_at schedule) (uses_of schedule.problem.loop value) read c in
    let u = use-back schedule.problem.loop value m.0 m.1 in
    let t = values-in_time schedule.problem.loop schedule.problem.graph.latencies schedule.ii schedule.times (keeps-dependences schedule is) value m.0.reader m.0.distance 0 u in
    let e = m.2 in
    let z : schedule.ii * 0 ≡ 0 = omega arith in
    let y : schedule.ii * (0 + m.0.distance) ≡ schedule.ii * m.0.distance = ap (λ n. schedule.ii * n) (let x : 0 + m.0.distance ≡ m.0.distance = omega arith in x) in
    omega arith)
