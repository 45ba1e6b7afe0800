-- What the parts of a problem are called in texts.
use Rattle.std.specs.Prelude.{ℕ, decimal, List, Option, Some, None, slice_get}
use Rattle.problems.specs.declared.draft.Draft.{Draft}

-- a name, or where there is none the part's number in decimal digits
abbrev pub name_or : ℕ → Option (List ℕ) → List ℕ
name_or number None = decimal number
name_or number (Some name) = name

-- what the part with a number is called, by the names of all such parts
abbrev pub name_in : List (List ℕ) → ℕ → List ℕ
name_in names number = name_or number (slice_get names number)

abbrev pub unit_name : Draft → ℕ → List ℕ
unit_name draft unit = name_in draft.names.units.items unit

abbrev pub file_name : Draft → ℕ → List ℕ
file_name draft file = name_in draft.names.files.items file

abbrev pub op_name : Draft → ℕ → List ℕ
op_name draft op = name_in draft.names.operations.items op

abbrev pub value_name : Draft → ℕ → List ℕ
value_name draft value = name_in draft.names.values.items value
