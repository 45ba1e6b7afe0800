-- What the numbers of operations are between rounds or sweeps of relaxation: lengths of walks.
use Rattle.std.specs.Prelude.{◌≡◌, ◌⊎◌, ℕ, pos, ◌+◌, ◌-◌, ◌*◌, ◌<◌, ◌≤◌, ◌+ℤ◌, ◌≤ℤ◌, ◌<ℤ◌, List, length, slice_index, Option, IfSome}
use Rattle.std.specs.List.{slice_index_or, All, Contains}
use Rattle.edges.specs.Edges.{EdgeData}
use Rattle.edges.specs.Graphs.{GraphData}
use Rattle.walks.specs.Kept.{KeepsNumber}
use Rattle.walks.specs.Walks.{AreHeights, Exceeds, FitsCircuits, IsWalk, length_of}
use Rattle.walks.specs.declared.relaxation.Relaxed.{Relaxed}
use Rattle.walks.specs.declared.relaxation.Relaxed.TheVariants.{Heights, Above}

-- the length of a walk of at most `long` edges from an operation, and no shorter than each walk of at most `most`
pub record IsReach (graph : GraphData) (ii long most p reach : ℕ) : Type 0 where
  pub walk : List EdgeData
  pub end : ℕ
  pub is_walk : IsWalk graph.edges p walk end
  pub few : length walk ≤ long
  pub as_long : pos reach ≡ length_of graph.latencies ii walk end
  pub longest : (other : List EdgeData) (last : ℕ) → IsWalk graph.edges p other last → length other ≤ most
      → length_of graph.latencies ii other last ≤ℤ pos reach

-- such a length for each operation
abbrev pub AreReaches : GraphData → ℕ → ℕ → ℕ → List ℕ → Type 0
AreReaches graph ii long most numbers = (p : ℕ) → p < length graph.latencies → IsReach graph ii long most p (slice_index numbers p)

-- the number is what an edge makes of its target's number: with its delay on, and its intervals off
pub record IsThrough (edges : List EdgeData) (ii : ℕ) (numbers : List ℕ) (number : ℕ) : Type 0 where
  pub edge : EdgeData
  pub there : Contains edges edge
  pub as_long : (pos (slice_index numbers edge.to) +ℤ edge.delay) ≡ pos (number + ii * edge.distance)

-- the greatest of an own number and of what these edges make of their targets' numbers
pub record IsRaised (edges : List EdgeData) (ii : ℕ) (numbers : List ℕ) (own raised : ℕ) : Type 0 where
  pub no_lower : own ≤ raised
  pub no_shorter : All (KeepsNumber ii numbers raised) edges
  pub attained : (raised ≡ own) ⊎ IsThrough edges ii numbers raised

-- no edge raises a number
abbrev pub KeepsNumbers : GraphData → ℕ → List ℕ → Type 0
KeepsNumbers graph ii numbers = All (λ (e : EdgeData). KeepsNumber ii numbers (slice_index numbers e.from) e) graph.edges

-- some walk from an operation is longer than each one of at most `most` edges
pub record IsRise (graph : GraphData) (ii most p : ℕ) : Type 0 where
  pub there : p < length graph.latencies
  pub walk : List EdgeData
  pub end : ℕ
  pub is_walk : IsWalk graph.edges p walk end
  pub longer : (other : List EdgeData) (last : ℕ) → IsWalk graph.edges p other last → length other ≤ most
      → length_of graph.latencies ii other last <ℤ length_of graph.latencies ii walk end

-- some walk of at most `round` edges is longer than each one of fewer from the same operation
pub record IsUnsettled (graph : GraphData) (ii round : ℕ) : Type 0 where
  pub start : ℕ
  pub there : start < length graph.latencies
  pub walk : List EdgeData
  pub end : ℕ
  pub is_walk : IsWalk graph.edges start walk end
  pub few : length walk ≤ round
  pub longer : (other : List EdgeData) (last : ℕ) → IsWalk graph.edges start other last → length other < round
      → length_of graph.latencies ii other last <ℤ length_of graph.latencies ii walk end

-- each edge that is kept for an operation is one from it
abbrev pub AreVias : GraphData → List (Option EdgeData) → Type 0
AreVias graph vias = (p : ℕ) (d : Option EdgeData) → p < length vias → IfSome (slice_index_or vias p d) (λ e. Contains graph.edges e × (e.from ≡ p))

-- a longer interval, and some circuit does not fit one that is a cycle shorter than it
abbrev pub IsAbove : List EdgeData → ℕ → ℕ → Type 0
IsAbove edges ii longer = (ii < longer) × Exceeds edges (longer - 1)

-- what relaxation at an interval comes to, with the numbers that it leaves
abbrev pub Relaxes : GraphData → ℕ → List ℕ → Relaxed → Type 0
Relaxes graph ii numbers Heights = AreHeights graph ii numbers × FitsCircuits graph.edges ii
Relaxes graph ii numbers (Above longer) = IsAbove graph.edges ii longer
