-- Graphs of edges as data.
use Rattle.std.specs.Prelude.{◌≡◌, ℕ, pos, ◌<◌, ◌≤◌, ◌≤ℤ◌, List, length}
use Rattle.machine_data.specs.declared.limits.TheConstants.{MAX_LATENCY, MAX_STATEMENTS}
use Rattle.std.specs.List.{All, AllPairs, Contains}
use Rattle.edges.specs.Edges.{EdgeData, Precedes}

-- the edges, and the latency of each operation in cycles
pub record GraphData : Type 0 where
  pub edges : List EdgeData
  pub latencies : List ℕ

-- 1 to 128 operations of 1 to 64 cycles; edges between them, each once and in order, which within an iteration go forward only
pub record IsGraph (graph : GraphData) : Type 0 where
  pub some : 0 < length graph.latencies
  pub few : length graph.latencies ≤ MAX_STATEMENTS
  pub latencies : All (λ l. (0 < l) × (l ≤ MAX_LATENCY)) graph.latencies
  pub ends : All (λ (e : EdgeData). (e.from < length graph.latencies) × (e.to < length graph.latencies)) graph.edges
  pub forward : All (λ (e : EdgeData). e.distance ≡ 0 → e.from < e.to) graph.edges
  pub delays : All (λ (e : EdgeData). e.delay ≤ℤ pos 64) graph.edges
  pub ascending : AllPairs Precedes graph.edges

-- edges, in any order, between 1 to 128 operations of 1 to 64 cycles, which within an iteration go forward only
pub record AreEdges (list : List EdgeData) (latencies : List ℕ) : Type 0 where
  pub some : 0 < length latencies
  pub few : length latencies ≤ MAX_STATEMENTS
  pub cycles : All (λ l. (0 < l) × (l ≤ MAX_LATENCY)) latencies
  pub ends : All (λ (e : EdgeData). (e.from < length latencies) × (e.to < length latencies)) list
  pub forward : All (λ (e : EdgeData). e.distance ≡ 0 → e.from < e.to) list
  pub delays : All (λ (e : EdgeData). e.delay ≤ℤ pos 64) list

-- the graph has just these edges
pub record IsGraphWith (list : List EdgeData) (latencies : List ℕ) (graph : GraphData) : Type 0 where
  pub same_latencies : graph.latencies ≡ latencies
  pub is_graph : IsGraph graph
  pub kept : (e : EdgeData) → Contains list e → Contains graph.edges e
  pub no_more : (e : EdgeData) → Contains graph.edges e → Contains list e
