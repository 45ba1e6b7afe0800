-- The longest walks from each operation, by how many edges they may have.
use Rattle.std.specs.Prelude.{◌≡◌, ◌≢◌, ℕ, pos, ◌+◌, ◌*◌, ◌+ℤ◌, ◌<◌, ◌≤◌, ◌==◌, List, ◌∷◌, ◌++◌, length, filter, slice_index, Option, None, MatchOption}
use Rattle.std.specs.List.{slice_index_or, All, AllPairs, Contains}
use Rattle.edges.specs.Edges.{EdgeData}
use Rattle.edges.specs.Graphs.{GraphData}
use Rattle.walks.specs.Kept.{KeepsNumber}

-- at the interval, the edge leads on to a walk of its target's length, and with it the walk is this long
abbrev pub LeadsOn : List EdgeData → ℕ → List ℕ → ℕ → EdgeData → Type 0
LeadsOn edges ii lengths reach e = Contains edges e × ((pos (slice_index lengths e.to) +ℤ e.delay) ≡ pos (reach + ii * e.distance))

-- the longest of an own walk and of those that begin with one of these edges, and its first edge if it is one of those
pub record IsFarthest (edges : List EdgeData) (ii : ℕ) (lengths : List ℕ) (own reach : ℕ) (first : Option EdgeData) : Type 0 where
  pub no_shorter : own ≤ reach
  pub longest : All (KeepsNumber ii lengths reach) edges
  pub attained : MatchOption first (reach ≡ own) (LeadsOn edges ii lengths reach)

-- the lengths of walks that may have one edge more than those of `before`, and the edges that they begin with
abbrev pub IsLayer : GraphData → ℕ → List ℕ → List ℕ → List (Option EdgeData) → Type 0
IsLayer graph ii before lengths first = (p : ℕ) → p < length graph.latencies
    → IsFarthest (filter (λ (e : EdgeData). e.from == p) graph.edges) ii before (slice_index before p) (slice_index lengths p) (slice_index_or first p None)

-- the part of a walk from an operation up to where the walk goes on from it again: it comes to no operation twice
pub record IsReturn (walk part : List EdgeData) : Type 0 where
  pub before : List EdgeData
  pub next : EdgeData
  pub after : List EdgeData
  pub is : walk ≡ before ++ (part ++ next ∷ after)
  pub some : 0 < length part
  pub returns : (d : EdgeData) → (slice_index_or part 0 d).from ≡ next.from
  pub once : AllPairs (λ (a b : EdgeData). a.from ≢ b.from) part
