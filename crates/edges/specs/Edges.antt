-- Edges between operations.
use Rattle.std.specs.Prelude.{◌≡◌, ◌⊎◌, ◌<◌, ◌<ℤ◌}
use Rattle.edges.specs.declared.edge.Edge.{Edge}

-- an edge demands t(to) + ii * distance ≥ t(from) + delay of the issue times t, in cycles, at an interval ii
abbrev pub EdgeData : Type 0
EdgeData = Edge

-- one edge is listed before another: by its operations, then by distance, then by delay
abbrev pub Precedes : EdgeData → EdgeData → Type 0
Precedes a b = (a.from < b.from)
    ⊎ ((a.from ≡ b.from) × ((a.to < b.to)
    ⊎ ((a.to ≡ b.to) × ((a.distance < b.distance)
    ⊎ ((a.distance ≡ b.distance) × (a.delay <ℤ b.delay))))))
