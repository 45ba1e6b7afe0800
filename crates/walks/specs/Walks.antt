-- Walks along edges, the recurrence-constrained lower bound (RecMII) and heights (HeightR), of B. R. Rau, HPL-94-115.
use Rattle.std.specs.Prelude.{◌≡◌, ◌⊎◌, ℕ, ℤ, pos, ◌+◌, ◌-◌, ◌*◌, ◌+ℤ◌, ◌-ℤ◌, ◌≤ℤ◌, ◌<ℤ◌, ◌<◌, ◌≤◌, List, [], ◌∷◌, length, slice_index}
use Rattle.std.specs.List.{Contains}
use Rattle.edges.specs.Edges.{EdgeData}
use Rattle.edges.specs.Graphs.{GraphData}

-- the walk goes along edges of the list from one operation to another; the walk without edges stays
abbrev pub IsWalk : List EdgeData → ℕ → List EdgeData → ℕ → Type 0
IsWalk edges p [] q = p ≡ q
IsWalk edges p (e ∷ walk) q = Contains edges e × (e.from ≡ p) × IsWalk edges e.to walk q

-- the sums of a walk's delays and distances
abbrev pub delay_of : List EdgeData → ℤ
delay_of [] = pos 0
delay_of (e ∷ walk) = e.delay +ℤ delay_of walk

abbrev pub distance_of : List EdgeData → ℕ
distance_of [] = 0
distance_of (e ∷ walk) = e.distance + distance_of walk

-- every closed walk fits: its delay is at most this interval times its distance
abbrev pub FitsCircuits : List EdgeData → ℕ → Type 0
FitsCircuits edges ii = (p : ℕ) (walk : List EdgeData) → IsWalk edges p walk p → delay_of walk ≤ℤ pos (ii * distance_of walk)

-- some closed walk does not fit: its delay is more than this interval times its distance
pub record Exceeds (edges : List EdgeData) (ii : ℕ) : Type 0 where
  pub start : ℕ
  pub walk : List EdgeData
  pub closed : IsWalk edges start walk start
  pub exceeds : pos (ii * distance_of walk) <ℤ delay_of walk

-- the bound: the least interval, from 1, at which every closed walk fits
pub record IsRecurrenceBound (edges : List EdgeData) (bound : ℕ) : Type 0 where
  pub from_one : 1 ≤ bound
  pub fits : FitsCircuits edges bound
  pub least : (bound ≡ 1) ⊎ Exceeds edges (bound - 1)

-- the length of a walk at an interval, in cycles, with the latency of the operation that it ends at
abbrev pub length_of : List ℕ → ℕ → List EdgeData → ℕ → ℤ
length_of latencies ii walk end = (delay_of walk -ℤ pos (ii * distance_of walk)) +ℤ pos (slice_index latencies end)

-- the height of an operation at an interval: the length of the longest walk from it
pub record IsHeight (edges : List EdgeData) (latencies : List ℕ) (ii : ℕ) (p : ℕ) (height : ℕ) : Type 0 where
  pub walk : List EdgeData
  pub end : ℕ
  pub is_walk : IsWalk edges p walk end
  pub as_long : pos height ≡ length_of latencies ii walk end
  pub longest : (other : List EdgeData) (last : ℕ) → IsWalk edges p other last → length_of latencies ii other last ≤ℤ pos height

-- the height of each operation
abbrev pub AreHeights : GraphData → ℕ → List ℕ → Type 0
AreHeights graph ii numbers = (p : ℕ) → p < length graph.latencies → IsHeight graph.edges graph.latencies ii p (slice_index numbers p)
