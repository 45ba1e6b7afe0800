-- A schedule has 1 to 64 stages, and each operation's is one of them.
use Rattle.std.proofs.Common.{◌+◌, ◌*◌, ℕ, zero, suc, ◌/◌, ◌<◌, ◌≤◌, List, [], ◌∷◌, length, map, get_or, arith}
use Rattle.std.specs.List.{All, slice_index}
use Rattle.std.proofs.lemmas.List.Elements.{All-head, All-tail}
use Rattle.std.proofs.Math.Nat.{lt-mul-div-succ, mul-le-mul}
use Rattle.unit_bound.specs.Units.{greatest_of}
use Rattle.schedules.specs.Schedules.{ScheduleData, IsSchedule}
use Rattle.schedules.specs.Promises.{StagesAreFew}

pub greatest_below : (f : ℕ → ℕ) (bound : ℕ) (xs : List ℕ) → 0 < bound → All (λ x. f x < bound) xs → greatest_of (map f xs) < bound
greatest_below f bound [] some all = some
greatest_below f bound (x ∷ xs) some all =
    let h : f x < bound = All-head (λ x. f x < bound) x xs all in
    let rest : greatest_of (map f xs) < bound = greatest_below f bound xs some (All-tail (λ x. f x < bound) x xs all) in
    omega arith

pub le_greatest : (f : ℕ → ℕ) (xs : List ℕ) (k : ℕ) → k < length xs → f (get_or xs k 0) ≤ greatest_of (map f xs)
le_greatest f [] k below = absurd (omega arith)
le_greatest f (x ∷ xs) zero below = omega arith
le_greatest f (x ∷ xs) (suc k) below = let rest : f (get_or xs k 0) ≤ greatest_of (map f xs) = le_greatest f xs k (omega arith) in omega arith

pub stages-are_few : StagesAreFew
stages-are_few s is =
    let few : greatest_of (map (λ time. time / s.ii) s.times) < 64 = greatest_below (λ time. time / s.ii) 64 s.times (omega arith) is.stages in (
      omega arith,
      λ op below.
          let within : op < length s.times = omega (arith, is.lawful.plan.each_time) in
          let h : slice_index s.times op / s.ii ≤ greatest_of (map (λ time. time / s.ii) s.times) = le_greatest (λ time. time / s.ii) s.times op within in
          omega arith,
    )

-- so each time is less than 64 intervals
pub time_below : (s : ScheduleData) (op : ℕ) → IsSchedule s → op < length s.problem.operations → slice_index s.times op < 64 * s.ii
time_below s op is below =
    let some : 1 ≤ s.ii = is.ii_some in
    let within : op < length s.times = omega (arith, is.lawful.plan.each_time) in
    let few : slice_index s.times op / s.ii < 64 = is.stages op 0 within in
    let next : slice_index s.times op < s.ii * (slice_index s.times op / s.ii + 1) = lt-mul-div-succ (slice_index s.times op) (omega arith) in
    let most : s.ii * (slice_index s.times op / s.ii + 1) ≤ s.ii * 64 = mul-le-mul (let h : s.ii ≤ s.ii = omega arith in h) (omega arith) in
    omega arith
