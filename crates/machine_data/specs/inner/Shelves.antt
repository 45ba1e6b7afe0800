-- Where lists of alternatives are kept.
use Rattle.std.specs.Prelude.{List}
use Rattle.std.specs.Arc.{arc_slice_items}
use Rattle.machine_data.specs.declared.alternative.Row.{Row}
use Rattle.machine_data.specs.declared.alternative.Shelf.{Shelf}
use Rattle.machine_data.specs.declared.alternative.Shelf.TheVariants.{Own, Shared}

-- the alternatives on a shelf
abbrev pub on_shelf : Shelf → List (List Row)
on_shelf (Own list) = list.items
on_shelf (Shared list) = arc_slice_items list
