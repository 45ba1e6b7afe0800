-- Rounds of relaxation, told by walks: after `round` rounds the numbers are those of the longest walks of at most `round` edges.
use Rattle.std.specs.Prelude.{◌≡◌, ℕ, ◌<◌, ◌≤◌, ◌↔◌, ◌≤ℤ◌, Bool, true, false, List, length}
use Rattle.edges.specs.Edges.{EdgeData}
use Rattle.edges.specs.Graphs.{GraphData}
use Rattle.walks.specs.Walks.{IsWalk, IsRecurrenceBound, length_of}

-- from an operation, some walk of fewer than `round` edges is at least as long as each walk of at most `round` edges
pub record IsSettledAt (graph : GraphData) (ii round p : ℕ) : Type 0 where
  pub walk : List EdgeData
  pub end : ℕ
  pub is_walk : IsWalk graph.edges p walk end
  pub few : length walk < round
  pub longest : (other : List EdgeData) (last : ℕ) → IsWalk graph.edges p other last → length other ≤ round
      → length_of graph.latencies ii other last ≤ℤ length_of graph.latencies ii walk end

-- the last of `round` rounds changes nothing
abbrev pub Settles : GraphData → ℕ → ℕ → Type 0
Settles graph ii round = (p : ℕ) → p < length graph.latencies → IsSettledAt graph ii round p

-- whether rounds settle, and how many are made: the least number, from 1, of which the last changes nothing, and where there is
-- none, the number of operations
pub record IsRounds (graph : GraphData) (ii : ℕ) (settled : Bool) (rounds : ℕ) : Type 0 where
  pub from_one : 1 ≤ rounds
  pub within : rounds ≤ length graph.latencies
  pub settles : settled ≡ true → Settles graph ii rounds
  pub least : (fewer : ℕ) → 1 ≤ fewer → fewer < rounds → Settles graph ii fewer → ⊥
  pub never : settled ≡ false → (rounds ≡ length graph.latencies) × ((more : ℕ) → 1 ≤ more → Settles graph ii more → ⊥)

-- the answer to whether an interval is at or above the recurrence-constrained lower bound
abbrev pub TellsFeasible : List EdgeData → ℕ → Bool → Type 0
TellsFeasible edges ii answer = (bound : ℕ) → IsRecurrenceBound edges bound → (answer ≡ true) ↔ (bound ≤ ii)
