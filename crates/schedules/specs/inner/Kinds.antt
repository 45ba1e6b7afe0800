-- Whether it is known which operations have the same alternatives.
use Rattle.std.specs.Prelude.{ℕ, ◌<◌, List, length}
use Rattle.machine_data.specs.declared.alternative.Row.{Row}
use Rattle.schedules.specs.Problems.{AreKinds}

-- where there are kinds, they are those of the operations
abbrev pub KnowsKinds : List (List (List Row)) → List ℕ → Type 0
KnowsKinds operations kinds = 0 < length kinds → AreKinds operations kinds
