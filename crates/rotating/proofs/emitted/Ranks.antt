-- Tables over the values of a loop, statement by statement.
use Rattle.std.proofs.Common.{◌≡◌, ℕ, suc, zero, ◌+◌, ◌-◌, ◌<◌, ◌≤◌, Bool, true, false, List, [], ◌∷◌, length, get_or, map, set, take, drop, Some, refl, sym, ap, ◌∙◌, inl, inr, arith, length-append}
use Rattle.std.specs.Prelude.{slice_get, slice_index, is_some, replicate, if◌then◌else◌}
use Rattle.std.proofs.lemmas.Bool.{cases_eq, cases_lt, cases_Bool, cond-true, cond-false}
use Rattle.std.proofs.lemmas.List.{get_or-set_other, get_or-set_same}
use Rattle.std.proofs.lemmas.List.Elements.{All-get_or, All-contains}
use Rattle.loop_data.specs.declared.language.statement.Statement.{Statement}
use Rattle.loop_data.specs.declared.language.statement.Operand.TheVariants.{Value}
use Rattle.loop_data.specs.Loops.{LoopData, IsLoop, MayRead}
use Rattle.loop_data.specs.Run.{initial_of}
use Rattle.unit_bound.specs.Units.{greatest_of}
use Rattle.loop_schedules.specs.Schedules.{ScheduleData}
use Rattle.overlap.specs.Lifetimes.{Use, carried, is_out, uses_of, values_from, lifetime_of, lifetimes_of}
use Rattle.overlap.specs.Allotments.{AllotmentData, IsAllotment}
use Rattle.overlap.specs.Emission.{name_of, preloads_from}
use Rattle.overlap.proofs.in_registers.Lives.{values-append, contains-map_back, greatest-reached, use-back}
use Rattle.loop_data.proofs.Instances.{take-one_more, slice_get-within}
use Rattle.rotating.proofs.lives.Greatest.{drop-at, value-yes, value-no}

cond-most : (b : Bool) → (if b then 1 else 0) ≤ 1
cond-most true = omega arith
cond-most false = omega arith

statement-there : (xs : List Statement) (k : ℕ) (x : Statement) → k < length xs → x ≡ get_or xs k x → slice_get xs k ≡ Some x
statement-there [] k x lt e = absurd (omega arith)
statement-there (y ∷ xs) zero x lt e = ap (λ z. Some z) (sym e)
statement-there (y ∷ xs) (suc k) x lt e = statement-there xs k x (omega arith) e

ranks : (xs : List Statement) (q : ℕ) (s : Statement) → q < length xs → s ≡ get_or xs q s
    → (n : ℕ) × (length (values_from 0 (take (q + 1) xs)) ≡ length (values_from 0 (take q xs)) + length (values_from n (s ∷ [])))
ranks xs q s lt e =
    let m : ℕ = 0 + length (take q xs) in
    let z : q + 1 ≡ suc q = omega arith in (
      m,
      ap (λ k. length (values_from 0 (take k xs))) z ∙ ap (λ ys. length (values_from 0 ys)) (take-one_more xs q s (statement-there xs q s lt e))
          ∙ ap length (values-append 0 (take q xs) (s ∷ [])) ∙ length-append (values_from 0 (take q xs)) (values_from m (s ∷ [])),
    )

pub rank-yes : (xs : List Statement) (q : ℕ) (s : Statement) → q < length xs → s ≡ get_or xs q s → is_some s.name ≡ true
    → length (values_from 0 (take (q + 1) xs)) ≡ length (values_from 0 (take q xs)) + 1
rank-yes xs q s lt e named =
    let r = ranks xs q s lt e in
    let h = r.1 in
    let v = ap length (cond-true (is_some s.name) (r.0 ∷ []) [] named) in
    omega arith

pub rank-no : (xs : List Statement) (q : ℕ) (s : Statement) → q < length xs → s ≡ get_or xs q s → is_some s.name ≡ false
    → length (values_from 0 (take (q + 1) xs)) ≡ length (values_from 0 (take q xs))
rank-no xs q s lt e unnamed =
    let r = ranks xs q s lt e in
    let h = r.1 in
    let v = ap length (cond-false (is_some s.name) (r.0 ∷ []) [] unnamed) in
    omega arith

pub past-zero : (xs : List ℕ) (k : ℕ) → length xs ≤ k → slice_index xs k ≡ 0
past-zero [] k le = refl
past-zero (x ∷ xs) zero le = absurd (omega arith)
past-zero (x ∷ xs) (suc k) le = past-zero xs k (omega arith)

pub table-more : (table : List ℕ) (q v : ℕ) (f : ℕ → ℕ) → q < length table → ((k : ℕ) → k < q → slice_index table k ≡ f k) → v ≡ f q
    → (k : ℕ) → k < q + 1 → slice_index (set table q v) k ≡ f k
table-more table q v f lt before e k h = elim (cases_eq k q) [
  | inl same ↦ ap (slice_index (set table q v)) same ∙ get_or-set_same table q v 0 lt ∙ e ∙ ap f (sym same)
  | inr other ↦ get_or-set_other table q k v 0 other ∙ before k (omega arith)
]

-- a number is below the number of registers
pub number-below : (allotment : AllotmentData) → IsAllotment allotment → (k : ℕ) → slice_index allotment.numbers k < allotment.registers
number-below allotment is k = elim (cases_lt k (length allotment.numbers)) [
  | inl lt ↦ All-get_or (λ n. n < allotment.registers) allotment.numbers k 0 lt is.there
  | inr le ↦ let z = past-zero allotment.numbers k le in let s = is.some in omega arith
]

-- a value that is read is there
pub read-within : (loop : LoopData) (reader statement distance : ℕ) → MayRead loop reader (Value statement distance) → statement < length loop.statements
read-within loop reader statement distance may = slice_get-within loop.statements statement may.0.0 may.0.1

-- a table of zeros
pub zero-at : (n v : ℕ) → slice_index (replicate n 0) v ≡ 0
zero-at zero v = refl
zero-at (suc n) zero = refl
zero-at (suc n) (suc v) = zero-at n v

-- a value is carried on for at most 16 iterations
pub carried-few : (loop : LoopData) → IsLoop loop → (value : ℕ) → carried loop value ≤ 16
carried-few loop is value =
    let far : greatest_of (map (λ (u : Use). u.distance) (uses_of loop value)) ≤ 16 = elim (greatest-reached (map (λ (u : Use). u.distance) (uses_of loop value))) [
      | inl none ↦ omega arith
      | inr c ↦
          let m = contains-map_back (λ (u : Use). u.distance) (uses_of loop value) (greatest_of (map (λ (u : Use). u.distance) (uses_of loop value))) c in
          let u = use-back loop value m.0 m.1 in
          let may = All-contains (MayRead loop m.0.reader) u.0.operands (Value value m.0.distance) (is.each m.0.reader u.0 u.1).operands u.2 in
          let few = may.1 in
          let e = m.2 in
          omega arith
    ] in
    let out = cond-most (is_out loop value) in
    omega arith

-- the values from a statement on
pub values-yes : (xs : List Statement) (q : ℕ) (s : Statement) → q < length xs → s ≡ get_or xs q s → is_some s.name ≡ true
    → values_from q (drop q xs) ≡ q ∷ values_from (q + 1) (drop (q + 1) xs)
values-yes xs q s lt e named = ap (values_from q) (drop-at xs q s lt e) ∙ value-yes q s (drop (q + 1) xs) named

pub values-no : (xs : List Statement) (q : ℕ) (s : Statement) → q < length xs → s ≡ get_or xs q s → is_some s.name ≡ false
    → values_from q (drop q xs) ≡ values_from (q + 1) (drop (q + 1) xs)
values-no xs q s lt e unnamed = ap (values_from q) (drop-at xs q s lt e) ∙ value-no q s (drop (q + 1) xs) unnamed

-- the initial values of a value from one on
pub preloads-more : (schedule : ScheduleData) (allotment : AllotmentData) (value k count : ℕ) → k < count
    → preloads_from schedule allotment value (1 + k) (count - k)
    ≡ record { register = name_of schedule allotment value (k + 1) 0; value = initial_of schedule.problem.loop value (k + 1) } ∷ preloads_from schedule allotment value (1 + (k + 1)) (count - (k + 1))
preloads-more schedule allotment value k count lt =
    let n : count - k ≡ suc (count - (k + 1)) = omega arith in
    let a : 1 + k ≡ k + 1 = omega arith in
    let b : (1 + k) + 1 ≡ 1 + (k + 1) = omega arith in
    ap (preloads_from schedule allotment value (1 + k)) n
    ∙ ap (λ m. record { register = name_of schedule allotment value m 0; value = initial_of schedule.problem.loop value m } ∷ preloads_from schedule allotment value ((1 + k) + 1) (count - (k + 1))) a
    ∙ ap (λ m. record { register = name_of schedule allotment value (k + 1) 0; value = initial_of schedule.problem.loop value (k + 1) } ∷ preloads_from schedule allotment value m (count - (k + 1))) b

-- no more values than statements
pub values-few : (xs : List Statement) (q : ℕ) → length (values_from q xs) ≤ length xs
values-few [] q = omega arith
values-few (s ∷ xs) q =
    let r = values-few xs (q + 1) in
    elim (cases_Bool (is_some s.name)) [
      | inl named ↦ let e = ap length (value-yes q s xs named) in omega arith
      | inr unnamed ↦ let e = ap length (value-no q s xs unnamed) in omega arith
    ]

length-map-few : (schedule : ScheduleData) (vs : List ℕ) → length (map (lifetime_of schedule) vs) ≡ length vs
length-map-few schedule [] = refl
length-map-few schedule (v ∷ vs) = ap suc (length-map-few schedule vs)

pub lives-few : (schedule : ScheduleData) → length (lifetimes_of schedule) ≤ length schedule.problem.loop.statements
unfolding lifetimes_of
lives-few schedule = let a = values-few schedule.problem.loop.statements 0 in let b = length-map-few schedule (values_from 0 schedule.problem.loop.statements) in omega arith
