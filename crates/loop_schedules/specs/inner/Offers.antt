-- Operations that have the same alternatives.
use Rattle.std.specs.Prelude.{◌≡◌, ◌<◌, ◌⊎◌, ℕ, List, [], length, slice_index_or}
use Rattle.machine_data.specs.declared.alternative.Row.{Row}

-- the operation is one of the list and has these alternatives, or it is the next one
abbrev pub IsAlike : List (List (List Row)) → List (List Row) → ℕ → Type 0
IsAlike list alternatives op = (op ≡ length list) ⊎ ((op < length list) × (slice_index_or list op [] ≡ alternatives))
