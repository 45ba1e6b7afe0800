-- Times that keep the edges make every circuit fit.
use Rattle.std.proofs.Common.{◌≡◌, ℕ, ◌+◌, ◌-◌, ◌*◌, ◌<◌, ◌≤◌, ℤ, pos, ◌+ℤ◌, List, [], ◌∷◌, ap, inl, inr, arith}
use Rattle.std.specs.Prelude.{◌≤ℤ◌, ◌<ℤ◌}
use Rattle.std.proofs.lemmas.Int.{ints}
use Rattle.std.proofs.lemmas.List.Elements.{All-contains}
use Rattle.std.proofs.lemmas.Bool.{cases_lt}
use Rattle.std.proofs.Math.Nat.{mul-add, mul-le-mul}
use Rattle.std.specs.List.{slice_index, All}
use Rattle.edges.specs.Edges.{EdgeData}
use Rattle.edges.specs.Schedules.{KeepsEdge}
use Rattle.walks.specs.Promises.{SchedulesKeepRecurrences}
use Rattle.walks.specs.Walks.{IsWalk, delay_of, distance_of, FitsCircuits, IsRecurrenceBound}

-- along a walk the times differ by at least its delay less its intervals
walk-kept : (edges : List EdgeData) (ii : ℕ) (times : List ℕ) → All (KeepsEdge ii times) edges → (p q : ℕ) (walk : List EdgeData) → IsWalk edges p walk q
    → (pos (slice_index times p) +ℤ delay_of walk) ≤ℤ pos (slice_index times q + ii * distance_of walk)
walk-kept edges ii times keeps p q [] w =
    let e : slice_index times p ≡ slice_index times q = ap (slice_index times) w in
    omega (arith, ints)
walk-kept edges ii times keeps p q (e ∷ walk) w =
    let k : (pos (slice_index times e.from) +ℤ e.delay) ≤ℤ pos (slice_index times e.to + ii * e.distance) = All-contains (KeepsEdge ii times) edges e keeps w.0 in
    let a : slice_index times e.from ≡ slice_index times p = ap (slice_index times) w.1 in
    let rest : (pos (slice_index times e.to) +ℤ delay_of walk) ≤ℤ pos (slice_index times q + ii * distance_of walk) = walk-kept edges ii times keeps e.to q walk w.2 in
    let s : ii * (e.distance + distance_of walk) ≡ ii * e.distance + ii * distance_of walk = mul-add ii e.distance (distance_of walk) in
    omega (arith, ints)

-- each circuit fits an interval at which some times keep the edges
pub fits-from_kept : (edges : List EdgeData) (ii : ℕ) (times : List ℕ) → All (KeepsEdge ii times) edges → FitsCircuits edges ii
fits-from_kept edges ii times keeps p walk w =
    let h : (pos (slice_index times p) +ℤ delay_of walk) ≤ℤ pos (slice_index times p + ii * distance_of walk) = walk-kept edges ii times keeps p p walk w in
    omega (arith, ints)

-- a circuit that fits an interval fits a longer one
pub fits-longer : (ii later d : ℕ) (delay : ℤ) → ii ≤ later → delay ≤ℤ pos (ii * d) → delay ≤ℤ pos (later * d)
fits-longer ii later d delay le h =
    let k : ii * d ≤ later * d = mul-le-mul le (omega arith) in
    omega (arith, ints)

pub bound-le-fitting : (edges : List EdgeData) (bound ii : ℕ) → IsRecurrenceBound edges bound → 0 < ii → FitsCircuits edges ii → bound ≤ ii
bound-le-fitting edges bound ii b some fits = elim (cases_lt ii bound) [
  | inl less ↦ elim b.least [
    | inl one ↦ (let e : bound ≡ 1 = one in omega arith)
    | inr x ↦ (let le : ii ≤ bound - 1 = omega arith in
        let f : delay_of x.walk ≤ℤ pos (ii * distance_of x.walk) = fits x.start x.walk x.closed in
        let g : delay_of x.walk ≤ℤ pos ((bound - 1) * distance_of x.walk) = fits-longer ii (bound - 1) (distance_of x.walk) (delay_of x.walk) le f in
        let y : pos ((bound - 1) * distance_of x.walk) <ℤ delay_of x.walk = x.exceeds in
        absurd (omega (arith, ints)))
  ]
  | inr more ↦ more
]

pub schedules-keep_recurrences : SchedulesKeepRecurrences
schedules-keep_recurrences edges bound ii times b some keeps = bound-le-fitting edges bound ii b some (fits-from_kept edges ii times keeps)
