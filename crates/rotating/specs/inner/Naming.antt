-- Tables of the values' numbers and of how far they are carried on, by their statements.
use Rattle.std.specs.Prelude.{◌≡◌, ℕ, ◌+◌, ◌<◌, ◌≤◌, List, [], ◌∷◌, length, slice_index}
use Rattle.loop_data.specs.Loops.{LoopData}
use Rattle.overlap.specs.Allotments.{AllotmentData, allotted_number}
use Rattle.overlap.specs.Lifetimes.{carried}

-- at each statement's place stands the number of its value
pub record AreNumbers (loop : LoopData) (allotment : AllotmentData) (table : List ℕ) : Type 0 where
  pub long : length loop.statements ≤ length table
  pub each : (q : ℕ) → q < length loop.statements → slice_index table q ≡ allotted_number loop allotment q

-- and for how many iterations its value is carried on
pub record AreCarried (loop : LoopData) (table : List ℕ) : Type 0 where
  pub long : length loop.statements ≤ length table
  pub each : (q : ℕ) → q < length loop.statements → slice_index table q ≡ carried loop q

-- for how many iterations these values are carried on, all together
abbrev pub preload_count : LoopData → List ℕ → ℕ
preload_count loop [] = 0
preload_count loop (value ∷ values) = carried loop value + preload_count loop values
