-- Sets of units with how full they are.
use Rattle.std.specs.Prelude.{◌≡◌, List, length}
use Rattle.machine_data.specs.declared.alternative.Row.{Row}
use Rattle.unit_sets.specs.declared.rating.Rated.{Rated}
use Rattle.unit_sets.specs.Sets.{set_rows}
use Rattle.unit_sets.specs.Fullest.{fill_of, units_in}

-- the numbers are those of the set
pub record IsRated (operations : List (List (List Row))) (set : Rated) : Type 0 where
  pub is_rows : set.rows ≡ set_rows (units_in set.units) operations
  pub is_size : set.size ≡ length (units_in set.units)
  pub is_fill : set.fill ≡ fill_of operations set.units
