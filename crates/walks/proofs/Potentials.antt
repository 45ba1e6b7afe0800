-- Numbers of operations that keep the edges make every circuit fit.
use Rattle.std.proofs.Common.{◌≡◌, ℕ, ◌+◌, ◌*◌, ◌<◌, ◌≤◌, ℤ, pos, ◌+ℤ◌, ◌-ℤ◌, List, [], ◌∷◌, length, ap, inl, inr, arith}
use Rattle.std.specs.Prelude.{◌≤ℤ◌}
use Rattle.std.proofs.lemmas.Int.{ints}
use Rattle.std.proofs.lemmas.Bool.{cases_eq}
use Rattle.std.proofs.lemmas.List.Elements.{All-contains}
use Rattle.std.proofs.Math.Nat.{mul-add, mul-le-mul}
use Rattle.std.specs.List.{All}
use Rattle.edges.specs.Edges.{EdgeData}
use Rattle.edges.specs.Graphs.{GraphData, IsGraph}
use Rattle.walks.specs.Walks.{IsWalk, delay_of, distance_of, FitsCircuits}
use Rattle.walks.specs.Promises.{RecurrencesAreLimited}
use Rattle.walks.proofs.Recurrences.{bound-le-fitting}

-- the number at an edge's source is no lower than that at its target with the edge's delay less its intervals
abbrev pub KeepsHeight : ℕ → (ℕ → ℤ) → EdgeData → Type 0
KeepsHeight ii height e = (height e.to +ℤ e.delay) ≤ℤ (height e.from +ℤ pos (ii * e.distance))

pub walk-below : (edges : List EdgeData) (ii : ℕ) (height : ℕ → ℤ) → All (KeepsHeight ii height) edges → (p q : ℕ) (walk : List EdgeData) → IsWalk edges p walk q
    → (height q +ℤ delay_of walk) ≤ℤ (height p +ℤ pos (ii * distance_of walk))
walk-below edges ii height keeps p q [] w =
    let e : height p ≡ height q = ap height w in
    omega (arith, ints)
walk-below edges ii height keeps p q (e ∷ walk) w =
    let k : (height e.to +ℤ e.delay) ≤ℤ (height e.from +ℤ pos (ii * e.distance)) = All-contains (KeepsHeight ii height) edges e keeps w.0 in
    let a : height e.from ≡ height p = ap height w.1 in
    let rest : (height q +ℤ delay_of walk) ≤ℤ (height e.to +ℤ pos (ii * distance_of walk)) = walk-below edges ii height keeps e.to q walk w.2 in
    let s : ii * (e.distance + distance_of walk) ≡ ii * e.distance + ii * distance_of walk = mul-add ii e.distance (distance_of walk) in
    omega (arith, ints)

pub fits-from_heights : (edges : List EdgeData) (ii : ℕ) (height : ℕ → ℤ) → All (KeepsHeight ii height) edges → FitsCircuits edges ii
fits-from_heights edges ii height keeps p walk w =
    let h : (height p +ℤ delay_of walk) ≤ℤ (height p +ℤ pos (ii * distance_of walk)) = walk-below edges ii height keeps p p walk w in
    omega (arith, ints)

-- every circuit fits an interval of 64 cycles for each operation
limit-edge : (n : ℕ) (e : EdgeData) → e.from < n → e.to < n → (e.distance ≡ 0 → e.from < e.to) → e.delay ≤ℤ pos 64
    → KeepsHeight (64 * n) (λ p. pos 0 -ℤ pos (64 * p)) e
limit-edge n e from to forward short = elim (cases_eq e.distance 0) [
  | inl zero ↦ (let less : e.from < e.to = forward zero in
      let none : (64 * n) * e.distance ≡ (64 * n) * 0 = ap (λ d. (64 * n) * d) zero in
      let nothing : (64 * n) * 0 ≡ 0 = omega arith in
      omega (arith, ints))
  | inr some ↦ (let one : 1 ≤ e.distance = omega arith in
      let more : (64 * n) * 1 ≤ (64 * n) * e.distance = mul-le-mul (omega arith) one in
      let is : (64 * n) * 1 ≡ 64 * n = omega arith in
      omega (arith, ints))
]

pub fits-at_limit : (graph : GraphData) → IsGraph graph → FitsCircuits graph.edges (64 * length graph.latencies)
fits-at_limit graph g = fits-from_heights graph.edges (64 * length graph.latencies) (λ p. pos 0 -ℤ pos (64 * p))
    (λ k d h. limit-edge (length graph.latencies) _ (g.ends k d h).0 (g.ends k d h).1 (g.forward k d h) (g.delays k d h))

pub recurrences-are_limited : RecurrencesAreLimited
recurrences-are_limited graph bound g b =
    let some : 0 < length graph.latencies = g.some in
    bound-le-fitting graph.edges bound (64 * length graph.latencies) b (omega arith) (fits-at_limit graph g)
