-- The registers of initial values.
use Rattle.std.proofs.Common.{◌≡◌, ℕ, suc, zero, ◌+◌, ◌-◌, ◌*◌, ◌%◌, ◌<◌, ◌≤◌, true, eqb, List, [], ◌∷◌, Option, Some, option_map, unwrap_or, find, ℤ, pos, ◌-ℤ◌, sym, ap, ◌∙◌, subst, inl, inr, arith}
use Rattle.std.specs.Prelude.{slice_get, is_some, flat_map}
use Rattle.std.specs.List.{Contains}
use Rattle.std.proofs.lemmas.Bool.{cases_eq, eq-eqb, ne_eqb, cond-true, cond-false}
use Rattle.std.proofs.lemmas.Int.{ints}
use Rattle.std.proofs.lemmas.List.Elements.{Contains-append_left, Contains-append_right}
use Rattle.loop_data.specs.declared.language.statement.Statement.{Statement}
use Rattle.loop_data.specs.Run.{initial_of}
use Rattle.kernel.specs.declared.kernels.parts.Preload.{Preload}
use Rattle.kernel.specs.Overlapped.{physical, preloaded}
use Rattle.overlap.specs.Allotments.{AllotmentData, allotted_number}
use Rattle.overlap.specs.Lifetimes.{carried, values_of, rank_of}
use Rattle.loop_schedules.specs.Schedules.{ScheduleData}
use Rattle.overlap.specs.Emission.{name_of, preloads_from, preloads_of, emitted}
use Rattle.overlap.specs.Overlap.{Belong}
use Rattle.overlap.proofs.in_flight.Landing.{contains-cases, contains-head, contains-tail}
use Rattle.instances.specs.Runs as lists
use Rattle.instances.proofs.Turned as places
use Rattle.instances.proofs.Openings.{openings-one}
use Rattle.overlap.proofs.in_registers.Lives.{rank-one, value-at_rank}
pub use Rattle.overlap.proofs.in_registers.Lives.{value-back}
use Rattle.overlap.proofs.in_registers.OfSchedule.{contains-at, run_of, is-run, rank-carried, rank-place, rank-within}
use Rattle.overlap.proofs.in_registers.Different.{flat-back}

found-in : (ps : List Preload) (r : ℕ) (v : ℤ) (p : Preload) → Contains ps p → p.register ≡ r → ((q : Preload) → Contains ps q → q.register ≡ r → q.value ≡ v)
    → unwrap_or (option_map (λ (q : Preload). q.value) (find (λ (q : Preload). eqb q.register r) ps)) (pos 0) ≡ v
found-in [] r v p c e all = absurd (let l = c.1 in omega arith)
found-in (x ∷ ps) r v p c e all =
    let value : Option Preload → ℤ = λ o. unwrap_or (option_map (λ (q : Preload). q.value) o) (pos 0) in
    let rest : Option Preload = find (λ (q : Preload). eqb q.register r) ps in
    elim (cases_eq x.register r) [
      | inl same ↦ ap value (cond-true (eqb x.register r) (Some x) rest (eq-eqb x.register r same)) ∙ all x (contains-head x ps) same
      | inr other ↦
          ap value (cond-false (eqb x.register r) (Some x) rest (ne_eqb x.register r other))
          ∙ elim (contains-cases x ps p c) [
            | inl here ↦ absurd (other (ap (λ (q : Preload). q.register) here ∙ e))
            | inr after ↦ found-in ps r v p after e (λ q d f. all q (contains-tail x ps q d) f)
          ]
    ]

-- the preloads are those of the values' initial values

pub record IsPreload (schedule : ScheduleData) (allotment : AllotmentData) (p : Preload) : Type 0 where
  pub value : ℕ
  pub number : ℕ
  pub statement : Statement
  pub is_statement : slice_get schedule.problem.loop.statements value ≡ Some statement
  pub named : is_some statement.name ≡ true
  pub some : 1 ≤ number
  pub few : number ≤ carried schedule.problem.loop value
  pub is : p ≡ record { register = name_of schedule allotment value number 0; value = initial_of schedule.problem.loop value number }

pub number-back : (schedule : ScheduleData) (allotment : AllotmentData) (value from n : ℕ) (p : Preload) → Contains (preloads_from schedule allotment value from n) p
    → (k : ℕ) × (k < n) × (p ≡ record { register = name_of schedule allotment value (from + k) 0; value = initial_of schedule.problem.loop value (from + k) })
number-back schedule allotment value from zero p c = absurd (let l = c.1 in omega arith)
number-back schedule allotment value from (suc n) p c =
    let at : ℕ → Preload = λ m. record { register = name_of schedule allotment value m 0; value = initial_of schedule.problem.loop value m } in
    elim (contains-cases (at from) (preloads_from schedule allotment value (from + 1) n) p c) [
      | inl e ↦ (0, omega arith, sym e ∙ ap at (let z : from ≡ from + 0 = omega arith in z))
      | inr d ↦ let r = number-back schedule allotment value (from + 1) n p d in (suc r.0, let l = r.1 in omega arith, r.2 ∙ ap at (let z : (from + 1) + r.0 ≡ from + suc r.0 = omega arith in z))
    ]

number-there : (schedule : ScheduleData) (allotment : AllotmentData) (value from n k : ℕ) → k < n
    → Contains (preloads_from schedule allotment value from n) (record { register = name_of schedule allotment value (from + k) 0; value = initial_of schedule.problem.loop value (from + k) })
number-there schedule allotment value from zero k lt = absurd (omega arith)
number-there schedule allotment value from (suc n) zero lt =
    let at : ℕ → Preload = λ m. record { register = name_of schedule allotment value m 0; value = initial_of schedule.problem.loop value m } in
    let z : from ≡ from + 0 = omega arith in
    subst (λ m. Contains (at from ∷ preloads_from schedule allotment value (from + 1) n) (at m)) z (contains-head (at from) (preloads_from schedule allotment value (from + 1) n))
number-there schedule allotment value from (suc n) (suc k) lt =
    let at : ℕ → Preload = λ m. record { register = name_of schedule allotment value m 0; value = initial_of schedule.problem.loop value m } in
    let z : (from + 1) + k ≡ from + suc k = omega arith in
    contains-tail (at from) (preloads_from schedule allotment value (from + 1) n) (at (from + suc k))
    (subst (λ m. Contains (preloads_from schedule allotment value (from + 1) n) (at m)) z (number-there schedule allotment value (from + 1) n k (omega arith)))

flat-there : {A : Type 0} (f : ℕ → List A) (xs : List ℕ) (x : ℕ) (y : A) → Contains xs x → Contains (f x) y → Contains (flat_map f xs) y
flat-there f [] x y c d = absurd (let l = c.1 in omega arith)
flat-there f (z ∷ xs) x y c d = elim (contains-cases z xs x c) [
  | inl e ↦ Contains-append_left (f z) (flat_map f xs) y (subst (λ w. Contains (f w) y) (sym e) d)
  | inr b ↦ Contains-append_right (f z) (flat_map f xs) y (flat-there f xs x y b d)
]

pub preload-back : (schedule : ScheduleData) (allotment : AllotmentData) (p : Preload) → Contains (preloads_of schedule allotment) p → IsPreload schedule allotment p
preload-back schedule allotment p c =
    let loop = schedule.problem.loop in
    let f = flat-back (λ value. preloads_from schedule allotment value 1 (carried loop value)) (values_of loop) p c in
    let v = value-back 0 loop.statements f.0 f.1 in
    let n = number-back schedule allotment f.0 1 (carried loop f.0) p f.2 in
    record {
      value = f.0;
      number = 1 + n.0;
      statement = v.1;
      is_statement = ap (slice_get loop.statements) (let e = v.3 in let z : f.0 ≡ v.0 = omega arith in z) ∙ v.2;
      named = v.4;
      some = omega arith;
      few = let l = n.1 in omega arith;
      is = n.2;
    }

-- registers

pub name-physical : (registers number m : ℕ) → 0 < registers → (number + m + 0) % registers ≡ physical registers number (pos 0 -ℤ pos m)
name-physical registers number m some = sym (places.physical-is registers number (pos 0 -ℤ pos m) 0 (number + m + 0) some (let z : 0 * registers ≡ 0 = omega arith in omega (arith, ints)))

opening-at : (schedule : ScheduleData) (allotment : AllotmentData) → Belong schedule allotment → (x m : ℕ) (s : Statement)
    → slice_get schedule.problem.loop.statements x ≡ Some s → is_some s.name ≡ true
    → lists.preloaded (run_of schedule allotment) (rank_of schedule.problem.loop x) m ≡ lists.InRegister 0 (name_of schedule allotment x m 0)
opening-at schedule allotment b x m s hx nx =
    places.preloaded-is (run_of schedule allotment) (is-run schedule allotment b).homes (rank_of schedule.problem.loop x) m ∙ rank-place schedule allotment b x s hx nx (pos 0 -ℤ pos m)
    ∙ ap (lists.InRegister 0) (sym (name-physical allotment.registers (allotted_number schedule.problem.loop allotment x) m b.allotted.some))

-- two initial values in one register are one
pub preloads-one : (schedule : ScheduleData) (allotment : AllotmentData) → Belong schedule allotment → (x m y n : ℕ) (s t : Statement)
    → slice_get schedule.problem.loop.statements x ≡ Some s → is_some s.name ≡ true → slice_get schedule.problem.loop.statements y ≡ Some t → is_some t.name ≡ true
    → 1 ≤ m → m ≤ carried schedule.problem.loop x → 1 ≤ n → n ≤ carried schedule.problem.loop y
    → name_of schedule allotment x m 0 ≡ name_of schedule allotment y n 0 → (x ≡ y) × (m ≡ n)
preloads-one schedule allotment b x m y n s t hx nx hy ny m1 mc n1 nc e =
    let loop = schedule.problem.loop in
    let far_x = rank-carried schedule allotment b x s hx nx in
    let far_y = rank-carried schedule allotment b y t hy ny in
    let r = openings-one (run_of schedule allotment) (is-run schedule allotment b) (rank_of loop x) (rank_of loop y) m n (rank-within schedule allotment b x s hx nx) (rank-within schedule allotment b y t hy ny)
    m1 (omega arith) n1 (omega arith) (opening-at schedule allotment b x m s hx nx ∙ ap (lists.InRegister 0) e ∙ sym (opening-at schedule allotment b y n t hy ny)) in
    (rank-one loop x y s t hx nx hy ny r.0, r.1)

-- the register of an initial value opens with it
pub preloaded-is : (schedule : ScheduleData) (allotment : AllotmentData) → Belong schedule allotment → (x m : ℕ) (s : Statement)
    → slice_get schedule.problem.loop.statements x ≡ Some s → is_some s.name ≡ true → 1 ≤ m → m ≤ carried schedule.problem.loop x
    → preloaded (emitted schedule allotment) (physical allotment.registers (allotted_number schedule.problem.loop allotment x) (pos 0 -ℤ pos m)) ≡ initial_of schedule.problem.loop x m
unfolding emitted
preloaded-is schedule allotment b x m s hx nx m1 mc =
    let loop = schedule.problem.loop in
    let some : 0 < allotment.registers = b.allotted.some in
    let r : ℕ = physical allotment.registers (allotted_number loop allotment x) (pos 0 -ℤ pos m) in
    let name : name_of schedule allotment x m 0 ≡ r = name-physical allotment.registers (allotted_number loop allotment x) m some in
    let back : 1 + (m - 1) ≡ m = omega arith in
    let at : ℕ → Preload = λ n. record { register = name_of schedule allotment x n 0; value = initial_of loop x n } in
    found-in (preloads_of schedule allotment) r (initial_of loop x m) (at m)
    (flat-there (λ value. preloads_from schedule allotment value 1 (carried loop value)) (values_of loop) x (at m)
    (contains-at (values_of loop) (rank_of loop x) x (value-at_rank loop x s hx nx))
    (subst (λ n. Contains (preloads_from schedule allotment x 1 (carried loop x)) (at n)) back (number-there schedule allotment x 1 (carried loop x) (m - 1) (omega arith))))
    name
    (λ q c e.
    let is = preload-back schedule allotment q c in
    let o = preloads-one schedule allotment b x m is.value is.number s is.statement hx nx is.is_statement is.named m1 mc is.some is.few
    (name ∙ sym e ∙ ap (λ (p : Preload). p.register) is.is) in
    ap (λ (p : Preload). p.value) is.is ∙ ap (λ v. initial_of loop v is.number) (sym o.0) ∙ ap (initial_of loop x) (sym o.1))
