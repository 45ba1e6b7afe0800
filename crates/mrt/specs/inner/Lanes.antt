-- Eight words side by side.
use Rattle.std.specs.Prelude.{◌≡◌, ℕ, ◌<◌, List, length, slice_index}

-- the vector has eight lanes, and each holds the number of its place
pub record HasLanes (lanes : List ℕ) (f : ℕ → ℕ) : Type 0 where
  pub long : length lanes ≡ 8
  pub each : (k : ℕ) → k < 8 → slice_index lanes k ≡ f k
