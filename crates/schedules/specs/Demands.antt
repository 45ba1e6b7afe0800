-- What an edge demands of the issue time of its target.
use Rattle.std.specs.Prelude.{◌≡◌, ◌⊎◌, ℕ, pos, ◌+◌, ◌*◌, ◌+ℤ◌, ◌≤ℤ◌}
use Rattle.edges.specs.Edges.{EdgeData}

-- an edge demands that an operation is issued no sooner, counted from 0, when the one that it depends on is issued at the time
pub record IsDemand (ii time : ℕ) (edge : EdgeData) (least : ℕ) : Type 0 where
  pub kept : (pos time +ℤ edge.delay) ≤ℤ pos (least + ii * edge.distance)
  pub tight : (least ≡ 0) ⊎ ((pos time +ℤ edge.delay) ≡ pos (least + ii * edge.distance))
