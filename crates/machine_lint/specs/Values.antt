-- What a value in the tree of a machine text has to be.
use Rattle.std.specs.Prelude.{ℕ, pos, ◌==◌, ◌&&◌, Bool, true, false, if◌then◌else◌, List, [], length, Option, Some, None, is_some}
use Rattle.std.specs.List.{list_any}
use Rattle.toml.specs.Data.{Data, string, integer, array, as_array, as_integer, as_str, as_table}
use Rattle.machine_data.specs.Opcodes.{same_word}
use Rattle.machine_data.specs.declared.limits.TheConstants.{MAX_ALTERNATIVES, MAX_LATENCY, MAX_OFFSET, MAX_REGISTERS, MAX_ROWS, MAX_UNITS}
use Rattle.machine.specs.MachineText.{data_of, is_unit_name, text_of, within, words_in}
use Rattle.machine_lint.specs.declared.spots.Spot.{Spot}
use Rattle.machine_lint.specs.declared.spots.Spot.TheVariants as spot

-- the elements of an array, or of what is none
abbrev pub items_in : Data → List Data
items_in (array elements) = data_of elements
items_in _ = []

abbrev pub items_of : Option Data → List Data
items_of None = []
items_of (Some value) = items_in value

-- an array of so many elements at most, and of one at least
abbrev pub counts : ℕ → Data → Bool
counts high value = within 1 high (length (items_in value))

-- an integer so large at most, and 1 at least
abbrev pub measures : ℕ → Data → Bool
measures high (integer (pos n)) = within 1 high n
measures high _ = false

-- the offset of a row is small enough
abbrev pub reaches : Option (List ℕ × ℕ) → Bool
reaches None = false
reaches (Some words) = within 0 MAX_OFFSET words.1

-- a value has the type that it needs there; a row has the form `UNIT@NUM`
abbrev pub is_wanted : Spot → Data → Bool
is_wanted spot.Whole value = true
is_wanted (spot.TopKey key) value = true
is_wanted spot.Units value = is_some (as_array value)
is_wanted (spot.Unit n) value = is_some (as_str value)
is_wanted spot.Registers value = is_some (as_integer value)
is_wanted spot.Ops value = is_some (as_table value)
is_wanted (spot.Table word) value = is_some (as_table value)
is_wanted (spot.TableKey word key) value = true
is_wanted (spot.Latency word) value = is_some (as_integer value)
is_wanted (spot.Alternatives word) value = is_some (as_array value)
is_wanted (spot.Alternative word n) value = is_some (as_array value)
is_wanted (spot.Row word n m) value = is_some (words_in value)

-- a value of that type is within the limits
abbrev pub is_within : Spot → Data → Bool
is_within spot.Units value = counts MAX_UNITS value
is_within (spot.Unit n) value = is_unit_name (text_of value)
is_within spot.Registers value = measures MAX_REGISTERS value
is_within (spot.Latency word) value = measures MAX_LATENCY value
is_within (spot.Alternatives word) value = counts MAX_ALTERNATIVES value
is_within (spot.Alternative word n) value = counts MAX_ROWS value
is_within (spot.Row word n m) value = reaches (words_in value)
is_within _ value = true

-- two values are the same text
abbrev pub same_text : Data → Data → Bool
same_text (string text) (string other) = same_word text other
same_text _ _ = false

-- the words of a row whose offset is small enough
abbrev pub near : Option (List ℕ × ℕ) → Option (List ℕ × ℕ)
near None = None
near (Some words) = if within 0 MAX_OFFSET words.1 then Some words else None

abbrev pub row_words_in : Data → Option (List ℕ × ℕ)
row_words_in value = near (words_in value)

-- two rows have the same unit and the same offset
abbrev pub same_words : Option (List ℕ × ℕ) → Option (List ℕ × ℕ) → Bool
same_words (Some words) (Some others) = same_word words.0 others.0 && (words.1 == others.1)
same_words _ _ = false

-- the units have one of this name. Where no units are given none is missed
abbrev pub is_unit_of : Option Data → List ℕ → Bool
is_unit_of (Some (array units)) name = list_any (λ unit. same_text (string name) unit) (data_of units)
is_unit_of _ name = true

-- the unit of a row is there
abbrev pub knows : Option Data → Option (List ℕ × ℕ) → Bool
knows units None = true
knows units (Some words) = is_unit_of units words.0

-- the name of a row's unit
abbrev pub unit_named : Option (List ℕ × ℕ) → List ℕ
unit_named None = []
unit_named (Some words) = words.0
