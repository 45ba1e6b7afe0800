-- Circuits that do not fit an interval.
use Rattle.std.specs.Prelude.{◌≢◌, ℕ, pos, ◌*◌, ◌<ℤ◌, List}
use Rattle.std.specs.List.{AllPairs}
use Rattle.edges.specs.Edges.{EdgeData}
use Rattle.walks.specs.Walks.{IsWalk, delay_of, distance_of}

-- a circuit whose delay is more than this interval times its distance: it comes to no operation twice
pub record IsCircuitAbove (edges : List EdgeData) (ii : ℕ) (walk : List EdgeData) : Type 0 where
  pub start : ℕ
  pub closed : IsWalk edges start walk start
  pub exceeds : pos (ii * distance_of walk) <ℤ delay_of walk
  pub once : AllPairs (λ (a b : EdgeData). a.from ≢ b.from) walk
