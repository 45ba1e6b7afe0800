-- Lists of sets that grow.
use Rattle.std.specs.Prelude.{ℕ, ◌⊎◌, List}
use Rattle.std.specs.List.{Contains}

-- the list after has the sets of the one before and those that are added, and no others
pub record IsAdded (before added after : List ℕ) : Type 0 where
  pub kept : (set : ℕ) → Contains before set → Contains after set
  pub there : (set : ℕ) → Contains added set → Contains after set
  pub only : (set : ℕ) → Contains after set → Contains before set ⊎ Contains added set
