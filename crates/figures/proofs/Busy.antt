-- Which units are taken, and in how many rows.
use Rattle.std.proofs.Common.{◌≡◌, ℕ, zero, suc, ◌+◌, ◌<◌, ◌≤◌, Bool, true, false, cond, ltb, List, [], ◌∷◌, ◌++◌, length, get_or, filter, Some, refl, ap, ◌∙◌, subst, arith}
use Rattle.std.specs.Prelude.{◌||◌, count_by}
use Rattle.std.specs.Int.{from_bool}
use Rattle.std.specs.List.{All, list_any, range_with_len}
use Rattle.std.proofs.lemmas.Bool.Decides.{nat_tests}
use Rattle.std.proofs.lemmas.List.Elements.{All-filter}
use Rattle.std.proofs.lemmas.List.FromFn.{get_or-range_with_len, length-range_with_len}
use Rattle.std.proofs.lemmas.List.Sums.{sum_by-append, sum_by-cons}
use Rattle.std.proofs.lemmas.Option.{get_or_from_slice_get, slice_get_within}
use Rattle.machine_data.specs.Machines.{MachineData}
use Rattle.loop_schedules.specs.Schedules.{ScheduleData}
use Rattle.figures.specs.Slots.{is_used, slot_taker, takes_slot, used_units}

range-push : (a n k : ℕ) → a + n ≡ k → range_with_len a (suc n) ≡ range_with_len a n ++ k ∷ []
range-push a zero k e = let same : a ≡ k = omega arith in ap (λ m. m ∷ []) same
range-push a (suc n) k e = ap (λ ns. a ∷ ns) (range-push (a + 1) n k (omega arith))

pub numbers-push : (n : ℕ) → range_with_len 0 (n + 1) ≡ range_with_len 0 n ++ n ∷ []
numbers-push n = let next : n + 1 ≡ suc n = omega arith in ap (range_with_len 0) next ∙ range-push 0 n n (omega arith)

bit : (b : Bool) → from_bool b ≡ cond b 1 0
bit true = refl
bit false = refl

-- one row more
pub count-more : (p : ℕ → Bool) (n : ℕ) → count_by p (range_with_len 0 (n + 1)) ≡ count_by p (range_with_len 0 n) + from_bool (p n)
count-more p n =
    let all = ap (count_by p) (numbers-push n) in
    let split = sum_by-append (λ x. cond (p x) 1 0) (range_with_len 0 n) (n ∷ []) in
    let last = bit (p n) in
    omega arith

pub bit-few : (b : Bool) → from_bool b ≤ 1
bit-few true = omega arith
bit-few false = omega arith

-- a unit is used where it is taken in more than no row
one-counted : (b any : Bool) (n : ℕ) → ltb 0 n ≡ any → ltb 0 (cond b 1 0 + n) ≡ (b || any)
one-counted true any n e = grind (arith, nat_tests)
one-counted false any n e = let same : 0 + n ≡ n = omega arith in ap (ltb 0) same ∙ e

pub some-counted : (p : ℕ → Bool) (ns : List ℕ) → ltb 0 (count_by p ns) ≡ list_any p ns
some-counted p [] = refl
some-counted p (n ∷ ns) = ap (ltb 0) (sum_by-cons (λ x. cond (p x) 1 0) n ns) ∙ one-counted (p n) (list_any p ns) (count_by p ns) (some-counted p ns)

numbers-below : (p : ℕ → Bool) (n : ℕ) → All (λ k. k < n) (filter p (range_with_len 0 n))
numbers-below p n = All-filter p (λ k. k < n) (range_with_len 0 n) (λ k d lt.
    let l = length-range_with_len 0 n in
    let e : get_or (range_with_len 0 n) k d ≡ 0 + k = get_or-range_with_len 0 n k d (omega arith) in
    omega arith)

pub units-below : (machine : MachineData) (schedule : ScheduleData) → All (λ unit. unit < length machine.units) (used_units machine schedule)
unfolding used_units
units-below machine schedule = numbers-below (is_used schedule) (length machine.units)

pub taker-below : (schedule : ScheduleData) (unit row op : ℕ) → slot_taker schedule unit row ≡ Some op → op < length schedule.problem.operations
taker-below schedule unit row op is =
    let n : ℕ = length schedule.problem.operations in
    let takers : List ℕ = filter (takes_slot schedule unit row) (range_with_len 0 n) in
    subst (λ k. k < n) (get_or_from_slice_get takers 0 op op is) (numbers-below (takes_slot schedule unit row) n 0 op (slice_get_within takers 0 op is))
