-- Lists of alternatives that are told by their numbers.
use Rattle.std.specs.Prelude.{◌≡◌, ℕ, ◌<◌, List, [], length, map}
use Rattle.std.specs.List.{All, slice_index_or}
use Rattle.machine_data.specs.declared.alternative.Row.{Row}

-- each number is that of a list, and the numbers stand for these lists
pub record AreListed (lists : List (List (List Row))) (numbers : List ℕ) (all : List (List (List Row))) : Type 0 where
  pub there : All (λ number. number < length lists) numbers
  pub same : map (λ number. slice_index_or lists number []) numbers ≡ all
