-- When the values of a schedule live.
use Rattle.std.proofs.Common.{◌≡◌, ℕ, suc, zero, ◌+◌, ◌*◌, ◌/◌, ◌%◌, ◌<◌, ◌≤◌, max, List, [], ◌∷◌, length, get_or, map, zip, refl, sym, ap, ◌∙◌, subst, arith}
use Rattle.std.specs.List.{All}
use Rattle.std.specs.Prelude.{slice_index}
use Rattle.std.proofs.lemmas.List.{length-map}
use Rattle.std.proofs.Math.Nat.{mul-le-mul_left, div-add-mod', mod-lt}
use Rattle.edges.specs.Schedules.{KeepsEdge}
use Rattle.schedules.specs.Problems.{ProblemData as SchedulingData}
use Rattle.schedules.specs.Schedules.{ScheduleData, IsSchedule, stages_of}
use Rattle.schedules.proofs.lawfulness.Stages.{stages-are_few}
use Rattle.problems.specs.declared.draft.Draft.{Draft}
use Rattle.problems.specs.Drafts.{plain_values}
use Rattle.problems.specs.Problems.{ProblemData, IsProblem}
use Rattle.registers.specs.declared.value.Value.{Value as PlainValue}
use Rattle.registers.specs.declared.value.Read.{Read}
use Rattle.registers.specs.Residues.{IsLifeSpan}
use Rattle.registers.specs.Values.{AreReadInTime, AreValues, greatest_of, landing_of, lives_from, lives_of}
use Rattle.registers.proofs.lives.Spans.{lives-are_spans}
use Rattle.solutions.specs.Solutions.{end_at, files_of, last_operation, lives_at}
use Rattle.problems.proofs.keeping.InTime.{reads-in_time}
use Rattle.problems.proofs.keeping.Sizes.{values-values}

-- a schedule of the problem
pub record IsOf (problem : ProblemData) (schedule : ScheduleData) : Type 0 where
  pub is_problem : IsProblem problem
  pub is_schedule : IsSchedule schedule
  pub same : schedule.problem ≡ problem.scheduling

-- sizes

time_below : (t ii : ℕ) → 1 ≤ ii → t / ii < 64 → t < 64 * ii
time_below t ii some q =
    let d : (t / ii) * ii + t % ii ≡ t = div-add-mod' t ii in
    let m : t % ii < ii = mod-lt t some in
    let a : ii * (t / ii) ≤ ii * 63 = mul-le-mul_left ii (omega arith) in
    let b : (t / ii) * ii ≡ ii * (t / ii) = omega arith in
    omega arith

pub times-below : (schedule : ScheduleData) → IsSchedule schedule → All (λ time. time < 64 * schedule.ii) schedule.times
times-below schedule is k d lt = time_below (get_or schedule.times k d) schedule.ii is.ii_some (is.stages k d lt)

pub times-few : (schedule : ScheduleData) → IsSchedule schedule → All (λ time. time ≤ 1048576) schedule.times
times-few schedule is k d lt =
    let b = times-below schedule is k d lt in
    let f = is.ii_few in
    omega arith

length-times : (problem : ProblemData) (schedule : ScheduleData) → IsOf problem schedule → length schedule.times ≡ length problem.draft.operations.items
length-times problem schedule is =
    is.is_schedule.lawful.plan.each_time
    ∙ ap (λ (p : SchedulingData). length p.operations) is.same
    ∙ ap length is.is_problem.is_scheduling.same_operations
    ∙ length-map problem.draft.operations.items _

-- the lists are of the sizes that registers takes
pub are-values : (problem : ProblemData) (schedule : ScheduleData) → IsOf problem schedule
    → AreValues schedule.ii schedule.times (plain_values problem.draft) problem.draft.reads.items
are-values problem schedule is = values-values problem schedule.ii schedule.times is.is_problem is.is_schedule.ii_some is.is_schedule.ii_few
    (length-times problem schedule is) (times-below schedule is.is_schedule)

pub are-in_time : (problem : ProblemData) (schedule : ScheduleData) → IsOf problem schedule
    → AreReadInTime schedule.ii schedule.times (plain_values problem.draft) problem.draft.reads.items
are-in_time problem schedule is = reads-in_time problem schedule.ii schedule.times is.is_problem
    (subst (λ (p : SchedulingData). All (KeepsEdge schedule.ii schedule.times) p.graph.edges) is.same is.is_schedule.lawful.keeps_edges)

-- the end

sums-few : (ts ls : List ℕ) → All (λ t. t ≤ 1048576) ts → All (λ l. (0 < l) × (l ≤ 64)) ls → greatest_of (map (λ (p : ℕ × ℕ). p.0 + p.1) (zip ts ls)) ≤ 1048640
sums-few [] ls a b = omega arith
sums-few (t ∷ ts) [] a b = omega arith
sums-few (t ∷ ts) (l ∷ ls) a b =
    let h : t ≤ 1048576 = a 0 0 (omega arith) in
    let k : (0 < l) × (l ≤ 64) = b 0 0 (omega arith) in
    let r = sums-few ts ls (λ i d g. a (suc i) d (omega arith)) (λ i d g. b (suc i) d (omega arith)) in
    omega arith

pub operations-few : (schedule : ScheduleData) → IsSchedule schedule → last_operation schedule ≤ 1048640
operations-few schedule is = sums-few schedule.times schedule.problem.graph.latencies (times-few schedule is) is.problem.graph.latencies

index-few : (xs : List ℕ) (n k : ℕ) → All (λ x. x ≤ n) xs → slice_index xs k ≤ n
index-few [] n k all = omega arith
index-few (x ∷ xs) n zero all = all 0 0 (omega arith)
index-few (x ∷ xs) n (suc k) all = index-few xs n k (λ i d h. all (suc i) d (omega arith))

pub values-few : (times : List ℕ) (values : List PlainValue) → All (λ time. time ≤ 1048576) times → All (λ (v : PlainValue). v.lands ≤ 64) values
    → greatest_of (map (landing_of times) values) ≤ 1048640
values-few times [] a b = omega arith
values-few times (v ∷ values) a b =
    let t = index-few times 1048576 v.maker a in
    let h : v.lands ≤ 64 = b 0 v (omega arith) in
    let r = values-few times values a (λ i d g. b (suc i) d (omega arith)) in
    omega arith

pub stages-few : (schedule : ScheduleData) → IsSchedule schedule → schedule.ii * stages_of schedule ≤ 1048576
stages-few schedule is =
    let s = (stages-are_few schedule is).0 in
    let m : schedule.ii * stages_of schedule ≤ schedule.ii * 64 = mul-le-mul_left schedule.ii s in
    let f = is.ii_few in
    omega arith

pub end-few : (problem : ProblemData) (schedule : ScheduleData) → IsOf problem schedule → end_at problem.draft schedule ≤ 1048640
end-few problem schedule is =
    let s = stages-few schedule is.is_schedule in
    let o = operations-few schedule is.is_schedule in
    let each = (are-values problem schedule is).each_value in
    let v = values-few schedule.times (plain_values problem.draft) (times-few schedule is.is_schedule) (λ k d lt. (each k d lt).lands) in
    omega arith

-- the lifetimes

pub are-spans : (problem : ProblemData) (schedule : ScheduleData) → IsOf problem schedule → All IsLifeSpan (lives_at problem.draft schedule)
unfolding lives_at
are-spans problem schedule is =
    lives-are_spans schedule.ii (end_at problem.draft schedule) schedule.times (plain_values problem.draft) problem.draft.reads.items
    (are-values problem schedule is) (are-in_time problem schedule is) (let e = end-few problem schedule is in omega arith)

length-from : (ii end : ℕ) (times : List ℕ) (reads : List Read) (number : ℕ) (values : List PlainValue) → length (lives_from ii times end reads number values) ≡ length values
length-from ii end times reads number [] = refl
length-from ii end times reads number (v ∷ values) = ap suc (length-from ii end times reads (number + 1) values)

length-of : (ii end : ℕ) (times : List ℕ) (values : List PlainValue) (reads : List Read) → length (lives_of ii times end values reads) ≡ length values
unfolding lives_of
length-of ii end times values reads = length-from ii end times reads 0 values

pub length-lives : (draft : Draft) (schedule : ScheduleData) → length (lives_at draft schedule) ≡ length draft.values.items
unfolding lives_at
length-lives draft schedule =
    length-of schedule.ii (end_at draft schedule) schedule.times (plain_values draft) draft.reads.items ∙ length-map draft.values.items _

pub length-files : (draft : Draft) → length (files_of draft) ≡ length draft.values.items
length-files draft = length-map draft.values.items _

-- what the calls have to be given

pub values-fit : (problem : ProblemData) (schedule : ScheduleData) (times : List ℕ) (values : List PlainValue) → IsOf problem schedule → times ≡ schedule.times → values ≡ plain_values problem.draft
    → All (λ (v : PlainValue). (v.maker < length times) × (v.lands ≤ 64)) values
values-fit problem schedule times values is same_times same_values =
    subst (λ ts. All (λ (v : PlainValue). (v.maker < length ts) × (v.lands ≤ 64)) values) (sym same_times)
    (subst (λ (vs : List PlainValue). All (λ (v : PlainValue). (v.maker < length schedule.times) × (v.lands ≤ 64)) vs) (sym same_values)
    (λ k d lt. let e = (are-values problem schedule is).each_value k d lt in (e.maker, e.lands)))

pub lists-fit : (problem : ProblemData) (schedule : ScheduleData) (ii : ℕ) (times : List ℕ) (values : List PlainValue) (reads : List Read) → IsOf problem schedule
    → ii ≡ schedule.ii → times ≡ schedule.times → values ≡ plain_values problem.draft → reads ≡ problem.draft.reads.items → AreValues ii times values reads
lists-fit problem schedule ii times values reads is same_ii same_times same_values same_reads =
    subst (λ n. AreValues n times values reads) (sym same_ii)
    (subst (λ ts. AreValues schedule.ii ts values reads) (sym same_times)
    (subst (λ (vs : List PlainValue). AreValues schedule.ii schedule.times vs reads) (sym same_values)
    (subst (λ (rs : List Read). AreValues schedule.ii schedule.times (plain_values problem.draft) rs) (sym same_reads) (are-values problem schedule is))))

abbrev end_with : ScheduleData → List ℕ → List PlainValue → ℕ
end_with schedule times values = max (schedule.ii * stages_of schedule) (max (last_operation schedule) (greatest_of (map (landing_of times) values)))

pub lives-of_parts : (draft : Draft) (schedule : ScheduleData) (ii end : ℕ) (times : List ℕ) (values : List PlainValue) (reads : List Read)
    → ii ≡ schedule.ii → times ≡ schedule.times → values ≡ plain_values draft → reads ≡ draft.reads.items → end ≡ end_with schedule times values
    → lives_of ii times end values reads ≡ lives_at draft schedule
unfolding lives_at
lives-of_parts draft schedule ii end times values reads same_ii same_times same_values same_reads same_end =
    ap (λ n. lives_of n times end values reads) same_ii
    ∙ ap (λ n. lives_of schedule.ii times n values reads) (same_end ∙ ap (λ ts. end_with schedule ts values) same_times ∙ ap (λ (vs : List PlainValue). end_with schedule schedule.times vs) same_values)
    ∙ ap (λ ts. lives_of schedule.ii ts (end_at draft schedule) values reads) same_times
    ∙ ap (λ (vs : List PlainValue). lives_of schedule.ii schedule.times (end_at draft schedule) vs reads) same_values
    ∙ ap (λ (rs : List Read). lives_of schedule.ii schedule.times (end_at draft schedule) (plain_values draft) rs) same_reads

pub length-plain : (draft : Draft) → length (plain_values draft) ≡ length draft.values.items
length-plain draft = length-map draft.values.items _
