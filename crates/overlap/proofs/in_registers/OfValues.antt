-- The lifetimes of a loop's values are those of lists of values and reads.
use Rattle.std.proofs.Common.{◌≡◌, ◌≢◌, ℕ, suc, zero, ◌+◌, ◌*◌, ◌<◌, max, eqb, List, [], ◌∷◌, ◌++◌, map, Some, refl, sym, ap, ◌∙◌, arith, append-nil}
use Rattle.std.specs.Prelude.{slice_get, slice_index, ◌==◌, if◌then◌else◌}
use Rattle.std.proofs.lemmas.Bool.{eq-eqb, ne_eqb, cond-true, cond-false}
use Rattle.std.proofs.lemmas.List.Elements.{filter-append}
use Rattle.registers.specs.declared.lifetime.Lifetime.{Lifetime}
use Rattle.registers.specs.declared.value.Read.{Read}
use Rattle.registers.specs.Values as list
use Rattle.registers.specs.Values.{reads_of, lives_from, lives_of}
use Rattle.loop_data.specs.Loops.{LoopData}
use Rattle.unit_bound.specs.Units.{greatest_of}
use Rattle.loop_schedules.specs.Schedules.{ScheduleData}
use Rattle.overlap.specs.Lifetimes.{Use, values_of, uses_of, is_out, carried, landing_of, read_at, last_read, first_cycle, lifetime_of, lifetimes_of}
use Rattle.overlap.specs.LoopValues.{value_of_loop, reads_by, reads_from, reads_of_loop, end_of, LifetimesAreOfValues}

-- the greatest of some numbers is told by both crates alike
greatest-same : (ns : List ℕ) → list.greatest_of ns ≡ greatest_of ns
greatest-same [] = refl
greatest-same (n ∷ ns) = ap (max n) (greatest-same ns)

last-same : (landing : ℕ) (ns : List ℕ) → list.last_read landing ns ≡ last_read landing ns
last-same landing [] = refl
last-same landing (n ∷ ns) = greatest-same (n ∷ ns)

-- the reads of a value among those of all

reads-here : (number : ℕ) (uses : List Use) → reads_of (reads_by number uses) number ≡ reads_by number uses
reads-here number [] = refl
reads-here number (u ∷ uses) =
    let one : Read = record { value = number; reader = u.reader; distance = u.distance; offset = 0 } in
    cond-true (eqb number number) (one ∷ reads_of (reads_by number uses) number) (reads_of (reads_by number uses) number) (eq-eqb number number refl)
    ∙ ap (λ (rs : List Read). one ∷ rs) (reads-here number uses)

reads-other : (number other : ℕ) (uses : List Use) → number ≢ other → reads_of (reads_by number uses) other ≡ []
reads-other number other [] apart = refl
reads-other number other (u ∷ uses) apart =
    let one : Read = record { value = number; reader = u.reader; distance = u.distance; offset = 0 } in
    cond-false (eqb number other) (one ∷ reads_of (reads_by number uses) other) (reads_of (reads_by number uses) other) (ne_eqb number other apart)
    ∙ reads-other number other uses apart

reads-later : (loop : LoopData) (number before : ℕ) (statements : List ℕ) → before < number → reads_of (reads_from loop number statements) before ≡ []
reads-later loop number before [] lt = refl
reads-later loop number before (s ∷ statements) lt =
    filter-append (λ (r : Read). r.value == before) (reads_by number (uses_of loop s)) (reads_from loop (number + 1) statements)
    ∙ ap (λ (rs : List Read). rs ++ reads_of (reads_from loop (number + 1) statements) before) (reads-other number before (uses_of loop s) (λ e. omega arith))
    ∙ reads-later loop (number + 1) before statements (omega arith)

-- those of the value at a place are its uses
reads-at : (loop : LoopData) (number : ℕ) (statements : List ℕ) (k s : ℕ) → slice_get statements k ≡ Some s
    → reads_of (reads_from loop number statements) (number + k) ≡ reads_by (number + k) (uses_of loop s)
reads-at loop number [] k s e = cc
reads-at loop number (x ∷ statements) zero s e =
    let same : x ≡ s = cc in
    let here : number + 0 ≡ number = omega arith in
    ap (reads_of (reads_from loop number (x ∷ statements))) here
    ∙ filter-append (λ (r : Read). r.value == number) (reads_by number (uses_of loop x)) (reads_from loop (number + 1) statements)
    ∙ ap (λ (rs : List Read). rs ++ reads_of (reads_from loop (number + 1) statements) number) (reads-here number (uses_of loop x))
    ∙ ap (λ (rs : List Read). reads_by number (uses_of loop x) ++ rs) (reads-later loop (number + 1) number statements (omega arith))
    ∙ append-nil (reads_by number (uses_of loop x))
    ∙ ap (λ v. reads_by number (uses_of loop v)) same
    ∙ ap (λ n. reads_by n (uses_of loop s)) (sym here)
reads-at loop number (x ∷ statements) (suc k) s e =
    let there : number + suc k ≡ (number + 1) + k = omega arith in
    ap (reads_of (reads_from loop number (x ∷ statements))) there
    ∙ filter-append (λ (r : Read). r.value == ((number + 1) + k)) (reads_by number (uses_of loop x)) (reads_from loop (number + 1) statements)
    ∙ ap (λ (rs : List Read). rs ++ reads_of (reads_from loop (number + 1) statements) ((number + 1) + k)) (reads-other number ((number + 1) + k) (uses_of loop x) (λ z. omega arith))
    ∙ reads-at loop (number + 1) statements k s e
    ∙ ap (λ n. reads_by n (uses_of loop s)) (sym there)

-- their distances and cycles are those of the uses

distances-same : (number : ℕ) (uses : List Use) → map (λ (r : Read). r.distance) (reads_by number uses) ≡ map (λ (u : Use). u.distance) uses
distances-same number [] = refl
distances-same number (u ∷ uses) = ap (λ ns. u.distance ∷ ns) (distances-same number uses)

cycles-same : (schedule : ScheduleData) (number : ℕ) (uses : List Use) → map (list.read_at schedule.ii schedule.times) (reads_by number uses) ≡ map (read_at schedule) uses
cycles-same schedule number [] = refl
cycles-same schedule number (u ∷ uses) =
    let time : ℕ = slice_index schedule.times u.reader in
    let no_offset : time + 0 ≡ time = omega arith in
    ap (λ n. (n + schedule.ii * u.distance) ∷ map (list.read_at schedule.ii schedule.times) (reads_by number uses)) no_offset
    ∙ ap (λ ns. read_at schedule u ∷ ns) (cycles-same schedule number uses)

-- so a value is carried as far

far-same : (reads : List Read) (number : ℕ) (uses : List Use) → reads_of reads number ≡ reads_by number uses
    → list.greatest_of (map (λ (r : Read). r.distance) (reads_of reads number)) ≡ greatest_of (map (λ (u : Use). u.distance) uses)
far-same reads number uses e =
    ap (λ (rs : List Read). list.greatest_of (map (λ (r : Read). r.distance) rs)) e ∙ ap list.greatest_of (distances-same number uses) ∙ greatest-same (map (λ (u : Use). u.distance) uses)

pub reads-of_value : (loop : LoopData) (v x : ℕ) → slice_get (values_of loop) v ≡ Some x → reads_of (reads_of_loop loop) v ≡ reads_by v (uses_of loop x)
reads-of_value loop v x there =
    let z : v ≡ 0 + v = omega arith in
    ap (reads_of (reads_of_loop loop)) z ∙ reads-at loop 0 (values_of loop) v x there ∙ ap (λ n. reads_by n (uses_of loop x)) (sym z)

pub carried-same : (loop : LoopData) (v x : ℕ) → slice_get (values_of loop) v ≡ Some x → list.carried (reads_of_loop loop) v (is_out loop x) ≡ carried loop x
carried-same loop v x there = ap (λ n. max n (if is_out loop x then 1 else 0)) (far-same (reads_of_loop loop) v (uses_of loop x) (reads-of_value loop v x there))

-- lifetimes

life-same : (schedule : ScheduleData) (reads : List Read) (number s : ℕ) → reads_of reads number ≡ reads_by number (uses_of schedule.problem.loop s)
    → list.live_of schedule.ii schedule.times (end_of schedule) reads number (value_of_loop schedule.problem.loop schedule.problem.graph.latencies s) ≡ lifetime_of schedule s
life-same schedule reads number s e =
    let loop = schedule.problem.loop in
    let landing : ℕ = landing_of schedule s in
    let far = far-same reads number (uses_of loop s) e in
    let late : list.last_read landing (map (list.read_at schedule.ii schedule.times) (reads_of reads number)) ≡ last_read landing (map (read_at schedule) (uses_of loop s))
    = ap (λ (rs : List Read). list.last_read landing (map (list.read_at schedule.ii schedule.times) rs)) e ∙ ap (list.last_read landing) (cycles-same schedule number (uses_of loop s))
    ∙ last-same landing (map (read_at schedule) (uses_of loop s)) in
    ap (λ n. record {
      operation = s;
      first = list.first_cycle schedule.ii landing (max n (if is_out loop s then 1 else 0));
      last = max (list.last_read landing (map (list.read_at schedule.ii schedule.times) (reads_of reads number))) (if is_out loop s then end_of schedule else 0);
    }) far
    ∙ ap (λ n. record { operation = s; first = first_cycle schedule s; last = max n (if is_out loop s then end_of schedule else 0) }) late

lives-same : (schedule : ScheduleData) (reads : List Read) (number : ℕ) (statements : List ℕ)
    → ((k s : ℕ) → slice_get statements k ≡ Some s → reads_of reads (number + k) ≡ reads_by (number + k) (uses_of schedule.problem.loop s))
    → lives_from schedule.ii schedule.times (end_of schedule) reads number (map (value_of_loop schedule.problem.loop schedule.problem.graph.latencies) statements) ≡ map (lifetime_of schedule) statements
lives-same schedule reads number [] all = refl
lives-same schedule reads number (s ∷ statements) all =
    let loop = schedule.problem.loop in
    let latencies = schedule.problem.graph.latencies in
    let here : number + 0 ≡ number = omega arith in
    let rest : List Lifetime = lives_from schedule.ii schedule.times (end_of schedule) reads (number + 1) (map (value_of_loop loop latencies) statements) in
    ap (λ (life : Lifetime). life ∷ rest)
    (life-same schedule reads number s (ap (reads_of reads) (sym here) ∙ all 0 s refl ∙ ap (λ n. reads_by n (uses_of loop s)) here))
    ∙ ap (λ (ls : List Lifetime). lifetime_of schedule s ∷ ls)
    (lives-same schedule reads (number + 1) statements (λ k x e.
    let there : number + suc k ≡ (number + 1) + k = omega arith in
    ap (reads_of reads) (sym there) ∙ all (suc k) x e ∙ ap (λ n. reads_by n (uses_of loop x)) there))

pub lifetimes-are_of_values : LifetimesAreOfValues
unfolding lifetimes_of lives_of
lifetimes-are_of_values schedule =
    let loop = schedule.problem.loop in
    sym (lives-same schedule (reads_of_loop loop) 0 (values_of loop) (λ k s e.
    let z : 0 + k ≡ k = omega arith in
    reads-at loop 0 (values_of loop) k s e))
