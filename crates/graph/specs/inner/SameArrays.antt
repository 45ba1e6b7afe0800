-- The statements that touch each array, linked in their order.
use Rattle.std.specs.Prelude.{◌≡◌, ℕ, ◌+◌, ◌<◌, ◌≤◌, List, Some, slice_index, slice_get}
use Rattle.loop_data.specs.declared.language.statement.Statement.{Statement}
use Rattle.loop_data.specs.declared.language.statement.Place.{Place}

-- no statement from the one up to before the other touches the array
abbrev pub Skips : List Statement → ℕ → ℕ → ℕ → Type 0
Skips statements array i j = (k : ℕ) (s : Statement) (place : Place) → i ≤ k → k < j → slice_get statements k ≡ Some s
    → s.place ≡ Some place → place.array ≡ array → ⊥

-- of the statements from one on, this is the first that touches the array, if there is one
pub record IsLink (statements : List Statement) (array from link : ℕ) : Type 0 where
  pub following : from ≤ link
  pub skips : Skips statements array from link
  pub touches : (s : Statement) → slice_get statements link ≡ Some s → (place : Place) × (s.place ≡ Some place) × (place.array ≡ array)

-- where a statement touches an array, the next one that touches it
abbrev pub IsNextTouch : List Statement → ℕ → ℕ → Type 0
IsNextTouch statements k next = (s : Statement) (place : Place) → slice_get statements k ≡ Some s → s.place ≡ Some place → IsLink statements place.array (k + 1) next

-- from a statement on, the first one that touches each array and, after each that touches one, the next
pub record AreLinked (statements : List Statement) (from : ℕ) (first next : List ℕ) : Type 0 where
  pub first_of : (array : ℕ) → array < 256 → IsLink statements array from (slice_index first array)
  pub next_of : (k : ℕ) → from ≤ k → IsNextTouch statements k (slice_index next k)
