-- What a list of flags tells of placements.
use Rattle.std.specs.Prelude.{◌≡◌, ℕ, ◌<◌, Bool, true, false, List, length, None, IsSome}
use Rattle.std.specs.List.{slice_index_or}
use Rattle.mrt.specs.Placements.{Placements, placement_of}

-- there is a flag for each operation, set where it is placed
pub record Tells (held : List Bool) (count : ℕ) (placed : Placements) : Type 0 where
  pub long : length held ≡ count
  pub whole : length placed ≡ count
  pub placed_where : (op : ℕ) → op < count → slice_index_or held op false ≡ true → IsSome (placement_of placed op)
  pub unplaced_where : (op : ℕ) → slice_index_or held op false ≡ false → placement_of placed op ≡ None
