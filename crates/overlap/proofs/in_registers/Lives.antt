-- What lifetimes give: they begin no later than the landing, last to each use, and those of initial values are there at the start.
use Rattle.std.proofs.Common.{◌≡◌, ◌⊎◌, ℕ, suc, zero, ◌+◌, ◌*◌, ◌<◌, ◌≤◌, min, max, true, eqb, List, [], ◌∷◌, ◌++◌, length, map, take, drop, Option, Some, None, refl, sym, ap, ◌∙◌, subst, inl, inr, arith}
use Rattle.std.specs.Prelude.{slice_get, slice_index, is_some, filter_map, zip}
use Rattle.std.specs.List.{Contains, cons_option}
use Rattle.std.proofs.lemmas.Bool.{cases_Bool, cases_eq, cases_lt, eq-eqb, ne_eqb, cond-true, cond-false, cond_both}
use Rattle.std.proofs.lemmas.List.Elements.{Contains-append_left, Contains-append_right, Contains-append_cases}
use Rattle.loop_data.specs.declared.language.statement.Statement.{Statement}
use Rattle.loop_data.specs.declared.language.statement.Operand.{Operand}
use Rattle.loop_data.specs.declared.language.statement.Operand.TheVariants.{Constant, Parameter, Value}
use Rattle.loop_data.specs.Loops.{LoopData}
use Rattle.graph.specs.Dependences.{Uses}
use Rattle.graph.specs.Promises.{KeepsDependences, ValuesInTime}
use Rattle.unit_bound.specs.Units.{greatest_of}
use Rattle.loop_schedules.specs.Schedules.{ScheduleData, IsSchedule}
use Rattle.overlap.specs.Lifetimes.{Use, distance_to, uses_from, uses_of, carried, landing_of, read_at, last_read, last_landing, first_cycle, last_cycle, values_from, values_of, rank_of}
use Rattle.overlap.proofs.in_flight.Landing.{contains-cases, contains-head, contains-tail}
use Rattle.overlap.proofs.in_flight.Issued.{option-after, option-cases}
use Rattle.loop_data.proofs.Instances.{slice_get-within, split-there}

-- the greatest of some numbers

pub greatest-of : (ns : List ℕ) (n : ℕ) → Contains ns n → n ≤ greatest_of ns
greatest-of [] n c = absurd (let l = c.1 in omega arith)
greatest-of (m ∷ ns) n c = elim (contains-cases m ns n c) [
  | inl e ↦ omega arith
  | inr d ↦ let r = greatest-of ns n d in omega arith
]

pub contains-map : {X Y : Type 0} (f : X → Y) (xs : List X) (x : X) → Contains xs x → Contains (map f xs) (f x)
contains-map f [] x c = absurd (let l = c.1 in omega arith)
contains-map f (y ∷ xs) x c = elim (contains-cases y xs x c) [
  | inl e ↦ subst (λ z. Contains (f z ∷ map f xs) (f x)) (sym e) (contains-head (f x) (map f xs))
  | inr d ↦ contains-tail (f y) (map f xs) (f x) (contains-map f xs x d)
]

-- uses

contains-filter_map : {X Y : Type 0} (f : X → Option Y) (xs : List X) (x : X) (y : Y) → Contains xs x → f x ≡ Some y → Contains (filter_map f xs) y
contains-filter_map f [] x y c e = absurd (let l = c.1 in omega arith)
contains-filter_map f (z ∷ xs) x y c e = elim (contains-cases z xs x c) [
  | inl same ↦ subst (λ o. Contains (cons_option o (filter_map f xs)) y) (sym (ap f same ∙ e)) (contains-head y (filter_map f xs))
  | inr d ↦ option-after (f z) (filter_map f xs) y (contains-filter_map f xs x y d e)
]

use-from : (value reader : ℕ) (statements : List Statement) (k distance : ℕ) (s : Statement) → slice_get statements k ≡ Some s → Contains s.operands (Value value distance)
    → Contains (uses_from value reader statements) (record { reader = reader + k; distance = distance })
use-from value reader [] k distance s h c = cc
use-from value reader (x ∷ statements) zero distance s h c =
    let e : x ≡ s = cc in
    let z : reader ≡ reader + 0 = omega arith in
    let here : List Use = map (λ d. record { reader = reader; distance = d }) (filter_map (distance_to value) x.operands) in
    Contains-append_left here (uses_from value (reader + 1) statements) (record { reader = reader + 0; distance = distance })
    (subst (λ n. Contains here (record { reader = n; distance = distance })) z
    (contains-map (λ d. record { reader = reader; distance = d }) (filter_map (distance_to value) x.operands) distance
    (contains-filter_map (distance_to value) x.operands (Value value distance) distance (subst (λ (y : Statement). Contains y.operands (Value value distance)) (sym e) c)
    (cond-true (eqb value value) (Some distance) None (eq-eqb value value refl)))))
use-from value reader (x ∷ statements) (suc k) distance s h c =
    let z : (reader + 1) + k ≡ reader + suc k = omega arith in
    let here : List Use = map (λ d. record { reader = reader; distance = d }) (filter_map (distance_to value) x.operands) in
    Contains-append_right here (uses_from value (reader + 1) statements) (record { reader = reader + suc k; distance = distance })
    (subst (λ n. Contains (uses_from value (reader + 1) statements) (record { reader = n; distance = distance })) z (use-from value (reader + 1) statements k distance s h c))

pub use-is : (loop : LoopData) (value reader distance : ℕ) → Uses loop reader value distance → Contains (uses_of loop value) (record { reader = reader; distance = distance })
use-is loop value reader distance u =
    let z : 0 + reader ≡ reader = omega arith in
    subst (λ n. Contains (uses_of loop value) (record { reader = n; distance = distance })) z (use-from value 0 loop.statements reader distance u.0 u.1 u.2)

-- lifetimes

-- it has begun when it lands
pub begins-by_landing : (schedule : ScheduleData) (value : ℕ) → first_cycle schedule value ≤ landing_of schedule value
begins-by_landing schedule value =
    cond_both (eqb (carried schedule.problem.loop value) 0) (landing_of schedule value) (min (landing_of schedule value) schedule.ii) (λ n. n ≤ landing_of schedule value) (λ _. omega arith) (λ _. omega arith)

-- the uses are all such

pub contains-map_back : {X Y : Type 0} (f : X → Y) (xs : List X) (y : Y) → Contains (map f xs) y → (x : X) × Contains xs x × (f x ≡ y)
contains-map_back f [] y c = absurd (let l = c.1 in omega arith)
contains-map_back f (x ∷ xs) y c = elim (contains-cases (f x) (map f xs) y c) [
  | inl e ↦ (x, contains-head x xs, e)
  | inr d ↦ let r = contains-map_back f xs y d in (r.0, contains-tail x xs r.0 r.1, r.2)
]

contains-filter_map_back : {X Y : Type 0} (f : X → Option Y) (xs : List X) (y : Y) → Contains (filter_map f xs) y → (x : X) × Contains xs x × (f x ≡ Some y)
contains-filter_map_back f [] y c = absurd (let l = c.1 in omega arith)
contains-filter_map_back f (x ∷ xs) y c = elim (option-cases (f x) (filter_map f xs) y c) [
  | inl e ↦ (x, contains-head x xs, e)
  | inr d ↦ let r = contains-filter_map_back f xs y d in (r.0, contains-tail x xs r.0 r.1, r.2)
]

operand-at : (value : ℕ) (o : Operand) (distance : ℕ) → distance_to value o ≡ Some distance → o ≡ Value value distance
operand-at value (Constant v) distance e = cc
operand-at value (Parameter n) distance e = cc
operand-at value (Value statement d) distance e = elim (cases_eq statement value) [
  | inl same ↦
      let x : Some d ≡ Some distance = sym (cond-true (eqb statement value) (Some d) None (eq-eqb statement value same)) ∙ e in
      let y : d ≡ distance = cc in
      ap (λ n. Value n d) same ∙ ap (Value value) y
  | inr other ↦ let x : None ≡ Some distance = sym (cond-false (eqb statement value) (Some d) None (ne_eqb statement value other)) ∙ e in cc
]

use-from_back : (value reader : ℕ) (statements : List Statement) (u : Use) → Contains (uses_from value reader statements) u
    → (k : ℕ) × (s : Statement) × (slice_get statements k ≡ Some s) × (u.reader ≡ reader + k) × Contains s.operands (Value value u.distance)
use-from_back value reader [] u c = absurd (let l = c.1 in omega arith)
use-from_back value reader (x ∷ statements) u c =
    elim (Contains-append_cases (map (λ d. record { reader = reader; distance = d }) (filter_map (distance_to value) x.operands)) (uses_from value (reader + 1) statements) u c) [
      | inl here ↦
          let m = contains-map_back (λ d. record { reader = reader; distance = d }) (filter_map (distance_to value) x.operands) u here in
          let f = contains-filter_map_back (distance_to value) x.operands m.0 m.1 in
          let r : reader ≡ u.reader = ap (λ (y : Use). y.reader) m.2 in
          let d : m.0 ≡ u.distance = ap (λ (y : Use). y.distance) m.2 in
          (0, x, refl, omega arith, subst (λ o. Contains x.operands o) (operand-at value f.0 m.0 f.2 ∙ ap (Value value) d) f.1)
      | inr after ↦
          let r = use-from_back value (reader + 1) statements u after in
          (suc r.0, r.1, r.2, let e = r.3 in omega arith, r.4)
    ]

pub use-back : (loop : LoopData) (value : ℕ) (u : Use) → Contains (uses_of loop value) u → Uses loop u.reader value u.distance
use-back loop value u c =
    let r = use-from_back value 0 loop.statements u c in
    let e : r.0 ≡ u.reader = let z = r.3 in omega arith in
    (r.1, ap (slice_get loop.statements) (sym e) ∙ r.2, r.4)

-- a value lives when it lands, where it has landed before each use

last-read_least : (landing : ℕ) (reads : List ℕ) → ((read : ℕ) → Contains reads read → landing ≤ read) → landing ≤ last_read landing reads
last-read_least landing [] all = omega arith
last-read_least landing (r ∷ reads) all = let h = all r (contains-head r reads) in let g = greatest-of (r ∷ reads) r (contains-head r reads) in omega arith

pub lasts-to_landing : ValuesInTime → (schedule : ScheduleData) → KeepsDependences schedule.problem.loop schedule.problem.graph.latencies schedule.ii schedule.times
    → (value : ℕ) → landing_of schedule value ≤ last_cycle schedule value
lasts-to_landing in_time schedule keeps value =
    let h = last-read_least (landing_of schedule value) (map (read_at schedule) (uses_of schedule.problem.loop value)) (λ read c.
    let m = contains-map_back (read_at schedule) (uses_of schedule.problem.loop value) read c in
    let u = use-back schedule.problem.loop value m.0 m.1 in
    let t = in_time schedule.problem.loop schedule.problem.graph.latencies schedule.ii schedule.times keeps value m.0.reader m.0.distance 0 u in
    let e = m.2 in
    let z : schedule.ii * 0 ≡ 0 = omega arith in
    let y : schedule.ii * (0 + m.0.distance) ≡ schedule.ii * m.0.distance = ap (λ n. schedule.ii * n) (let x : 0 + m.0.distance ≡ m.0.distance = omega arith in x) in
    omega arith) in
    omega arith

-- the initial values

pub greatest-reached : (ns : List ℕ) → (greatest_of ns ≡ 0) ⊎ Contains ns (greatest_of ns)
greatest-reached [] = inl refl
greatest-reached (n ∷ ns) = elim (cases_lt n (greatest_of ns)) [
  | inl lt ↦
      let e : max n (greatest_of ns) ≡ greatest_of ns = omega arith in
      elim (greatest-reached ns) [
        | inl none ↦ absurd (omega arith)
        | inr c ↦ inr (subst (Contains (n ∷ ns)) (sym e) (contains-tail n ns (greatest_of ns) c))
      ]
  | inr ge ↦ let e : max n (greatest_of ns) ≡ n = omega arith in inr (subst (Contains (n ∷ ns)) (sym e) (contains-head n ns))
]

-- landings

landing-zip : (times latencies : List ℕ) (q : ℕ) → q < length times → q < length latencies
    → slice_index times q + slice_index latencies q ≤ greatest_of (map (λ (p : ℕ × ℕ). p.0 + p.1) (zip times latencies))
landing-zip [] latencies q h k = absurd (omega arith)
landing-zip (t ∷ times) [] q h k = absurd (omega arith)
landing-zip (t ∷ times) (l ∷ latencies) zero h k = omega arith
landing-zip (t ∷ times) (l ∷ latencies) (suc q) h k = let r = landing-zip times latencies q (omega arith) (omega arith) in omega arith

pub lands-by_last : (schedule : ScheduleData) → IsSchedule schedule → (q : ℕ) (s : Statement) → slice_get schedule.problem.loop.statements q ≡ Some s → landing_of schedule q ≤ last_landing schedule
lands-by_last schedule sc q s there =
    let within = slice_get-within schedule.problem.loop.statements q s there in
    let a = sc.problem.each_operation in
    let b = sc.lawful.plan.each_time in
    let c = sc.problem.is_problem.each_latency in
    landing-zip schedule.times schedule.problem.graph.latencies q (omega arith) (omega arith)

-- ranks

pub value-back : (n : ℕ) (xs : List Statement) (y : ℕ) → Contains (values_from n xs) y → (k : ℕ) × (s : Statement) × (slice_get xs k ≡ Some s) × (y ≡ n + k) × (is_some s.name ≡ true)
value-back n [] y c = absurd (let l = c.1 in omega arith)
value-back n (x ∷ xs) y c =
    elim (cases_Bool (is_some x.name)) [
      | inl named ↦
          elim (contains-cases n (values_from (n + 1) xs) y (subst (λ l. Contains l y) (cond-true (is_some x.name) (n ∷ values_from (n + 1) xs) (values_from (n + 1) xs) named) c)) [
            | inl e ↦ (0, x, refl, omega arith, named)
            | inr d ↦ let r = value-back (n + 1) xs y d in (suc r.0, r.1, r.2, let e = r.3 in omega arith, r.4)
          ]
      | inr unnamed ↦
          let r = value-back (n + 1) xs y (subst (λ l. Contains l y) (cond-false (is_some x.name) (n ∷ values_from (n + 1) xs) (values_from (n + 1) xs) unnamed) c) in
          (suc r.0, r.1, r.2, let e = r.3 in omega arith, r.4)
    ]

pub values-few : (n : ℕ) (xs : List Statement) → length (values_from n xs) ≤ length xs
values-few n [] = omega arith
values-few n (x ∷ xs) =
    let r = values-few (n + 1) xs in
    cond_both (is_some x.name) (n ∷ values_from (n + 1) xs) (values_from (n + 1) xs) (λ ys. length ys ≤ suc (length xs)) (λ _. omega arith) (λ _. omega arith)

pub values-append : (n : ℕ) (xs ys : List Statement) → values_from n (xs ++ ys) ≡ values_from n xs ++ values_from (n + length xs) ys
values-append n [] ys = ap (λ k. values_from k ys) (omega arith)
values-append n (x ∷ xs) ys =
    let r : values_from (n + 1) (xs ++ ys) ≡ values_from (n + 1) xs ++ values_from ((n + 1) + length xs) ys = values-append (n + 1) xs ys in
    let k : (n + 1) + length xs ≡ n + suc (length xs) = omega arith in
    let s : values_from (n + 1) (xs ++ ys) ≡ values_from (n + 1) xs ++ values_from (n + suc (length xs)) ys = r ∙ ap (λ m. values_from (n + 1) xs ++ values_from m ys) k in
    elim (cases_Bool (is_some x.name)) [
      | inl named ↦
          cond-true (is_some x.name) (n ∷ values_from (n + 1) (xs ++ ys)) (values_from (n + 1) (xs ++ ys)) named ∙ ap (λ l. n ∷ l) s
          ∙ ap (λ l. l ++ values_from (n + suc (length xs)) ys) (sym (cond-true (is_some x.name) (n ∷ values_from (n + 1) xs) (values_from (n + 1) xs) named))
      | inr unnamed ↦
          cond-false (is_some x.name) (n ∷ values_from (n + 1) (xs ++ ys)) (values_from (n + 1) (xs ++ ys)) unnamed ∙ s
          ∙ ap (λ l. l ++ values_from (n + suc (length xs)) ys) (sym (cond-false (is_some x.name) (n ∷ values_from (n + 1) xs) (values_from (n + 1) xs) unnamed))
    ]

slice_get-middle : {X : Type 0} (xs : List X) (y : X) (ys : List X) → slice_get (xs ++ y ∷ ys) (length xs) ≡ Some y
slice_get-middle [] y ys = refl
slice_get-middle (x ∷ xs) y ys = slice_get-middle xs y ys

-- the value at a statement's rank is the statement's
pub value-at_rank : (loop : LoopData) (x : ℕ) (s : Statement) → slice_get loop.statements x ≡ Some s → is_some s.name ≡ true → slice_get (values_of loop) (rank_of loop x) ≡ Some x
value-at_rank loop x s there named =
    let front = split-there loop.statements x s there in
    let before : List Statement = take x loop.statements in
    let rest : List Statement = drop (suc x) loop.statements in
    let whole : values_of loop ≡ values_from 0 before ++ x ∷ values_from (x + 1) rest
    = ap (values_from 0) front.0 ∙ values-append 0 before (s ∷ rest)
    ∙ ap (λ l. values_from 0 before ++ l) (ap (λ n. values_from n (s ∷ rest)) (let e = front.1 in let z : 0 + length before ≡ x = omega arith in z) ∙ cond-true (is_some s.name) (x ∷ values_from (x + 1) rest) (values_from (x + 1) rest) named) in
    ap (λ l. slice_get l (rank_of loop x)) whole ∙ slice_get-middle (values_from 0 before) x (values_from (x + 1) rest)

-- values of one rank are one
pub rank-one : (loop : LoopData) (x y : ℕ) (s t : Statement) → slice_get loop.statements x ≡ Some s → is_some s.name ≡ true → slice_get loop.statements y ≡ Some t → is_some t.name ≡ true
    → rank_of loop x ≡ rank_of loop y → x ≡ y
rank-one loop x y s t hx nx hy ny e =
    let z : Some x ≡ Some y = sym (value-at_rank loop x s hx nx) ∙ ap (slice_get (values_of loop)) e ∙ value-at_rank loop y t hy ny in cc
