-- What the parts of a loop are told by as JSON: counts, integers, and lists of them.
use Rattle.std.specs.Prelude.{ℕ, ℤ, List, map, Option, Some, None}
use Rattle.serde_json.specs.Data.{Data, null, number, array, unsigned}
use Rattle.serde_json.specs.Find.{of_integer}
use Rattle.serde_json.specs.View.{items_of}

-- the members of each object stand in the order of their keys

abbrev pub count_value : ℕ → Data
count_value n = number (unsigned n)

abbrev pub integer_value : ℤ → Data
integer_value z = number (of_integer z)

-- how many registers values need; nothing where no number is enough
abbrev pub need_value : Option ℕ → Data
need_value (Some n) = count_value n
need_value None = null

-- an array with an element for each of these, in order
abbrev pub array_of : {A : Type 0} → (A → Data) → List A → Data
array_of value list = array (items_of (map value list))

-- an array of counts
abbrev pub counts_value : List ℕ → Data
counts_value list = array_of count_value list
