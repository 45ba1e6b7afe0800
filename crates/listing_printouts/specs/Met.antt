-- Whether a listing tells of a loop without a kernel.
use Rattle.std.specs.Prelude.{Bool, List}
use Rattle.std.specs.List.{list_all}
use Rattle.loop_listings.specs.declared.listings.Row.{Row}
use Rattle.loop_listings.specs.Listings.{is_met}

-- every loop has a kernel
abbrev pub are_met : List Row → Bool
are_met rows = list_all (λ (row : Row). is_met row.choice) rows
