-- What a sweep of relaxation leaves, by the order of the operations that it raises, from the last one to the first.
use Rattle.std.specs.Prelude.{ℕ, ◌<◌, ◌≤◌, List, slice_index}
use Rattle.std.specs.List.{All}
use Rattle.edges.specs.Edges.{EdgeData}
use Rattle.edges.specs.Graphs.{GraphData}
use Rattle.walks.specs.Kept.{KeepsNumber}

-- no edge to a later operation raises a number
abbrev pub KeepsOnward : GraphData → ℕ → List ℕ → Type 0
KeepsOnward graph ii numbers = All (λ (e : EdgeData). e.from < e.to → KeepsNumber ii numbers (slice_index numbers e.from) e) graph.edges

-- no edge to its own operation or to one before it raises a number
abbrev pub KeepsBack : GraphData → ℕ → List ℕ → Type 0
KeepsBack graph ii numbers = All (λ (e : EdgeData). e.to ≤ e.from → KeepsNumber ii numbers (slice_index numbers e.from) e) graph.edges
