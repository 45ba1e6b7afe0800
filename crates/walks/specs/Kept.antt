-- What an edge asks of the numbers of its two operations.
use Rattle.std.specs.Prelude.{ℕ, pos, ◌+◌, ◌*◌, ◌+ℤ◌, ◌≤ℤ◌, List, slice_index}
use Rattle.edges.specs.Edges.{EdgeData}

-- the number at an edge's source is no lower than what the edge makes of its target's
abbrev pub KeepsNumber : ℕ → List ℕ → ℕ → EdgeData → Type 0
KeepsNumber ii numbers own e = (pos (slice_index numbers e.to) +ℤ e.delay) ≤ℤ pos (own + ii * e.distance)
