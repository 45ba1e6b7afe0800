-- What the fullest set needs.
use Rattle.std.proofs.Common.{◌≡◌, ℕ, zero, suc, ◌+◌, ◌-◌, ◌*◌, ◌/◌, ◌<◌, ◌≤◌, max, inl, inr, List, length, sym, ap, ◌∙◌, subst, arith, bit_or, mul-le-mul_left}
use Rattle.std.proofs.lemmas.Bool.{cases_lt, cases_eq}
use Rattle.std.proofs.lemmas.Nat.{le-div}
use Rattle.std.proofs.lemmas.Nat.Bits.{bit_at_or, same_from_bits}
use Rattle.std.proofs.lemmas.List.Sums.{length-filter, count_by-le-length}
use Rattle.std.proofs.lemmas.List.FromFn.{length-range_with_len}
use Rattle.std.proofs.Math.Nat.{div-le_of_le-mul, div-zero, lt-mul-div-succ, mul-div-le}
use Rattle.std.specs.Int.Bits.{or_zero_l}
use Rattle.std.specs.Int.{bit_at}
use Rattle.std.specs.List.{Contains, range_with_len}
use Rattle.edges.specs.Edges.{EdgeData}
use Rattle.edges.specs.Schedules.{IsLawfulSchedule}
use Rattle.machine_data.specs.declared.alternative.Row.{Row}
use Rattle.unit_sets.specs.declared.fullest.UnitSet.{UnitSet}
use Rattle.unit_sets.specs.Sets.{set_rows}
use Rattle.unit_sets.specs.Fullest.{IsFullest, IsFullestWith, IsReached, fill_of, first_sets, has_unit, need_of, units_in}
use Rattle.unit_sets.proofs.Slots.{rows-le-slots}

join-again : (a b : ℕ) → bit_or (bit_or a b) b ≡ bit_or a b
join-again a b = same_from_bits (bit_or (bit_or a b) b) (bit_or a b)
    (λ i. bit_at_or (bit_or a b) b i ∙ ap (λ x. max x (bit_at b i)) (bit_at_or a b i)
    ∙ (let e : max (max (bit_at a i) (bit_at b i)) (bit_at b i) ≡ max (bit_at a i) (bit_at b i) = omega arith in e) ∙ sym (bit_at_or a b i))

-- the set that is reached is as full as each of the first sets
full-first : (rounds : ℕ) (operations : List (List (List Row))) (set other : ℕ) → IsReached (suc rounds) operations set → Contains (first_sets operations) other
    → fill_of operations other ≤ fill_of operations set
full-first zero operations set other h there =
    let e : bit_or h.0 other ≡ other = ap (λ b. bit_or b other) h.1 ∙ or_zero_l other in
    subst (λ s. fill_of operations s ≤ fill_of operations set) e (h.2.leads other there).full
full-first (suc rounds) operations set other h there =
    let before : ℕ = h.0 in
    let first : IsReached (suc rounds) operations before = h.1 in
    let had : IsFullestWith operations first.0 before = first.2 in
    let a : fill_of operations other ≤ fill_of operations before = full-first rounds operations before other first there in
    let same : bit_or before had.added ≡ before = ap (λ b. bit_or b had.added) had.is_union ∙ join-again first.0 had.added ∙ sym had.is_union in
    let b : fill_of operations before ≤ fill_of operations set = subst (λ s. fill_of operations s ≤ fill_of operations set) same (h.2.leads had.added had.is_first).full in
    omega (arith, a, b)

-- a fraction rounded up is at most k if the rows are at most k for each unit
up-le : (rows units k : ℕ) → rows ≤ units * k → (rows + (units - 1)) / units ≤ k
up-le rows zero k few = let e : (rows + (0 - 1)) / 0 ≡ 0 = div-zero (rows + (0 - 1)) in omega (arith, e)
up-le rows (suc n) k few = elim (cases_lt k ((rows + (suc n - 1)) / suc n)) [
  | inr le ↦ le
  | inl lt ↦
      (let low : suc n * ((rows + (suc n - 1)) / suc n) ≤ rows + (suc n - 1) = mul-div-le (rows + (suc n - 1)) (suc n) in
      let high : suc n * (k + 1) ≤ suc n * ((rows + (suc n - 1)) / suc n) = mul-le-mul_left (suc n) (let l : k + 1 ≤ (rows + (suc n - 1)) / suc n = omega arith in l) in
      let m : suc n * (k + 1) ≡ suc n * k + suc n = grind arith in
      absurd (omega arith))
]

-- and the rows are at most that for each unit
le-up : (rows units : ℕ) → 0 < units → rows ≤ units * ((rows + (units - 1)) / units)
le-up rows units some =
    let h : rows + (units - 1) < units * ((rows + (units - 1)) / units + 1) = lt-mul-div-succ (rows + (units - 1)) some in
    let m : units * ((rows + (units - 1)) / units + 1) ≡ units * ((rows + (units - 1)) / units) + units = grind arith in
    omega arith

-- a set that is not fuller needs no longer an interval
need-le : (rows units others count : ℕ) → units ≤ 64 → count ≤ 64 → (rows * 4096) / units ≤ (others * 4096) / count
    → (rows + (units - 1)) / units ≤ (others + (count - 1)) / count
need-le rows zero others count small few full = let e : (rows + (0 - 1)) / 0 ≡ 0 = div-zero (rows + (0 - 1)) in omega (arith, e)
need-le rows (suc n) others count small few full =
    let k = (others + (count - 1)) / count in
    let parts : (others * 4096) / count ≤ k * 4096 = elim (cases_eq count 0) [
      | inl e ↦ (let z : (others * 4096) / count ≡ 0 = ap (λ m. (others * 4096) / m) e ∙ div-zero (others * 4096) in omega arith)
      | inr ne ↦ div-le_of_le-mul count (let l : others ≤ count * k = le-up others count (omega arith) in
          let m : count * (k * 4096) ≡ count * k * 4096 = grind arith in omega arith)
    ] in
    up-le rows (suc n) k (elim (cases_lt (suc n * k) rows) [
      | inr le ↦ le
      | inl lt ↦
          (let m : (k * 4096 + 1) * suc n ≡ suc n * k * 4096 + suc n = grind arith in
          let more : k * 4096 + 1 ≤ (rows * 4096) / suc n = le-div (k * 4096 + 1) (rows * 4096) (suc n) (omega arith) (omega arith) in
          absurd (omega arith))
    ])

length-units_le : (set : ℕ) → length (units_in set) ≤ 64
unfolding units_in
length-units_le set = omega (arith, length-filter (has_unit set) (range_with_len 0 64), count_by-le-length (has_unit set) (range_with_len 0 64), length-range_with_len 0 64)

pub greatest : (operations : List (List (List Row))) (set : UnitSet) (other : ℕ) → IsFullest operations set → Contains (first_sets operations) other
    → need_of operations other ≤ set.need
greatest operations set other h there = subst (λ n. need_of operations other ≤ n) (sym h.is_need)
    (need-le (set_rows (units_in other) operations) (length (units_in other)) (set_rows (units_in set.units) operations) (length (units_in set.units))
    (length-units_le other) (length-units_le set.units)
    (full-first 3 operations set.units other h.reached there))

pub bound : (operations : List (List (List Row))) (set : UnitSet) (edges : List EdgeData) (ii : ℕ) (times choices : List ℕ) → IsFullest operations set → 0 < ii
    → IsLawfulSchedule ii operations edges times choices → set.need ≤ ii
bound operations set edges ii times choices h some lawful = subst (λ n. n ≤ ii) (sym h.is_need)
    (up-le (set_rows (units_in set.units) operations) (length (units_in set.units)) ii (rows-le-slots (units_in set.units) operations edges ii times choices some lawful))
