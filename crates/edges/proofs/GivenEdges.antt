-- Edges that are given make a graph once they are in order.
use Rattle.std.proofs.Common.{◌≡◌, List, get_or}
use Rattle.std.proofs.lemmas.List.Elements.{All-contains, Contains-get_or}
use Rattle.std.specs.List.{All, AllPairs, Contains}
use Rattle.edges.specs.Edges.{EdgeData, Precedes}
use Rattle.edges.specs.Graphs.{IsGraph, AreEdges}
use Rattle.std.proofs.Common.{ℕ, ◌<◌, pos, length}
use Rattle.std.specs.Prelude.{◌≤ℤ◌}

pub all_from_contains : (P : EdgeData → Type 0) (list left : List EdgeData) → All P list → ((e : EdgeData) → Contains left e → Contains list e) → All P left
all_from_contains P list left h less = λ k d within. All-contains P list (get_or left k d) h (less (get_or left k d) (Contains-get_or left k d within))

pub graph_given : (list left : List EdgeData) (latencies : List ℕ) → AreEdges list latencies → AllPairs Precedes left → ((e : EdgeData) → Contains left e → Contains list e)
    → IsGraph (record { edges = left; latencies = latencies })
graph_given list left latencies are up less = record {
  some = are.some;
  few = are.few;
  latencies = are.cycles;
  ends = all_from_contains (λ (e : EdgeData). (e.from < length latencies) × (e.to < length latencies)) list left are.ends less;
  forward = all_from_contains (λ (e : EdgeData). e.distance ≡ 0 → e.from < e.to) list left are.forward less;
  delays = all_from_contains (λ (e : EdgeData). e.delay ≤ℤ pos 64) list left are.delays less;
  ascending = up;
}
