-- All faults of the tree of a machine text, in the order in which the reader makes its checks.
use Rattle.std.specs.Prelude.{ℕ, not, Bool, true, false, if◌then◌else◌, codes, List, [], ◌∷◌, ◌++◌, length, take, Option, Some, None, is_some}
use Rattle.std.specs.List.{flat_map, list_any}
use Rattle.toml.specs.Data.{Data, table, Members, get_member}
use Rattle.machine_data.specs.Opcodes.{opcode_named, same_word}
use Rattle.machine_data.specs.declared.limits.TheConstants.{MAX_ALTERNATIVES, MAX_ROWS, MAX_UNITS}
use Rattle.machine.specs.MachineText.{entries_of, keys_in, text_of, words_in}
use Rattle.reader_faults.specs.declared.machine.MachineFault.{MachineFault}
use Rattle.reader_faults.specs.declared.machine.MachineFault.TheVariants.{Limit, MissingKey, RepeatedRow, RepeatedUnit, UnknownKey, UnknownOpcode, UnknownUnit, WrongType}
use Rattle.machine_lint.specs.Places.{place_of}
use Rattle.machine_lint.specs.Spots.{key_of, limit_of, shown}
use Rattle.machine_lint.specs.Values.{is_wanted, is_within, items_in, items_of, knows, row_words_in, same_text, same_words, unit_named}
use Rattle.machine_lint.specs.declared.place.MachineLint.{MachineLint}
use Rattle.machine_lint.specs.declared.spots.Found.TheVariants.{Nothing}
use Rattle.machine_lint.specs.declared.spots.Spot.{Spot}
use Rattle.machine_lint.specs.declared.spots.Spot.TheVariants as spot

abbrev pub Lints : Type 0
Lints = List MachineLint

-- a fault of a value of a text, at the word of its key
abbrev pub told : List ℕ → Spot → Data → MachineFault → MachineLint
told text at value fault = record { line = (place_of text at).line; column = (place_of text at).column; spot = at; found = shown value; fault = fault }

-- a key is missing, and so has no place
abbrev pub missed : Spot → MachineLint
missed at = record { line = 0; column = 0; spot = at; found = Nothing; fault = MissingKey (key_of at) }

-- the fault, where the test fails
abbrev pub told_unless : Bool → MachineLint → Lints
told_unless true lint = []
told_unless false lint = lint ∷ []

-- a value is missing, or of a wrong type, or outside its limits
unfoldable pub value_told : List ℕ → Spot → Option Data → Lints
value_told text at None = missed at ∷ []
value_told text at (Some value) =
    if is_wanted at value then told_unless (is_within at value) (told text at value (Limit (limit_of at)))
    else told text at value (WrongType (key_of at)) ∷ []

-- what is told of each element of a list, after the elements before it
abbrev pub in_turn : (List Data → Data → Lints) → List Data → List Data → Lints
in_turn check before [] = []
in_turn check before (d ∷ ds) = check before d ++ in_turn check (before ++ d ∷ []) ds

-- a key at the top, or in the table of a word
abbrev pub key_spot : Option (List ℕ) → List ℕ → Spot
key_spot None key = spot.TopKey key
key_spot (Some word) key = spot.TableKey word key

-- the keys that a table may have
abbrev pub known_keys : Option (List ℕ) → List (List ℕ)
known_keys None = codes "ops" ∷ codes "registers" ∷ codes "units" ∷ []
known_keys (Some word) = codes "alts" ∷ codes "latency" ∷ []

-- a key that means nothing, if it does
unfoldable pub key_told : List ℕ → Option (List ℕ) → List ℕ × Data → Lints
key_told text word entry =
    told_unless (list_any (same_word entry.0) (known_keys word)) (told text (key_spot word entry.0) entry.1 (UnknownKey (key_of (key_spot word entry.0))))

-- .. among those of a table
unfoldable pub keys_told : List ℕ → Option (List ℕ) → Members → Lints
keys_told text word members = flat_map (key_told text word) (entries_of members)

-- a unit is named by an earlier element of `units` too
unfoldable pub repeated_unit : List ℕ → List Data → Data → Lints
repeated_unit text before unit =
    told_unless (not (list_any (λ other. same_text other unit) before)) (told text (spot.Unit (length before)) unit (RepeatedUnit (text_of unit)))

-- an element of `units`, after those before it
unfoldable pub unit_told : List ℕ → List Data → Data → Lints
unit_told text before unit = value_told text (spot.Unit (length before)) (Some unit) ++ repeated_unit text before unit

-- the first 64 elements of `units`
unfoldable pub units_told : List ℕ → Option Data → Lints
units_told text units = value_told text spot.Units units ++ in_turn (unit_told text) [] (take MAX_UNITS (items_of units))

-- the units have none of the name of a row's unit
unfoldable pub unknown_unit : List ℕ → Option Data → Spot → Data → Lints
unknown_unit text units at row = told_unless (knows units (words_in row)) (told text at row (UnknownUnit (unit_named (words_in row))))

-- an earlier row of the alternative has the same unit and the same offset
unfoldable pub repeated_row : List ℕ → Spot → List Data → Data → Lints
repeated_row text at before row =
    told_unless (not (list_any (λ other. same_words (row_words_in other) (row_words_in row)) before)) (told text at row (RepeatedRow (key_of at)))

-- an element of an alternative, after those before it
unfoldable pub row_told : List ℕ → Option Data → List ℕ → ℕ → List Data → Data → Lints
row_told text units word n before row =
    value_told text (spot.Row word n (length before)) (Some row)
    ++ unknown_unit text units (spot.Row word n (length before)) row
    ++ repeated_row text (spot.Row word n (length before)) before row

-- an alternative, after those before it, and its first 16 rows
unfoldable pub alternative_told : List ℕ → Option Data → List ℕ → List Data → Data → Lints
alternative_told text units word before alternative =
    value_told text (spot.Alternative word (length before)) (Some alternative)
    ++ in_turn (row_told text units word (length before)) [] (take MAX_ROWS (items_in alternative))

-- the alternatives of a table, the first 8 of them
unfoldable pub alternatives_told : List ℕ → Option Data → List ℕ → Option Data → Lints
alternatives_told text units word alternatives =
    value_told text (spot.Alternatives word) alternatives
    ++ in_turn (alternative_told text units word) [] (take MAX_ALTERNATIVES (items_of alternatives))

-- the keys in a table
unfoldable pub table_told : List ℕ → Option Data → List ℕ → Members → Lints
table_told text units word keys =
    keys_told text (Some word) keys
    ++ value_told text (spot.Latency word) (get_member (codes "latency") keys)
    ++ alternatives_told text units word (get_member (codes "alts") keys)

-- .. if it is one
unfoldable pub inside_told : List ℕ → Option Data → List ℕ → Data → Lints
inside_told text units word (table keys) = table_told text units word keys
inside_told text units word _ = []

-- a key of `ops` is no opcode
unfoldable pub unknown_opcode : List ℕ → List ℕ → Data → Lints
unknown_opcode text word value = told_unless (is_some (opcode_named word)) (told text (spot.Table word) value (UnknownOpcode word))

-- a key of `ops` with its table
unfoldable pub entry_told : List ℕ → Option Data → List ℕ × Data → Lints
entry_told text units entry =
    unknown_opcode text entry.0 entry.1
    ++ value_told text (spot.Table entry.0) (Some entry.1)
    ++ inside_told text units entry.0 entry.1

unfoldable pub tables_told : List ℕ → Option Data → Option Data → Lints
tables_told text units ops = value_told text spot.Ops ops ++ flat_map (entry_told text units) (entries_of (keys_in ops))

-- the whole tree
unfoldable pub tree_told : List ℕ → Members → Lints
tree_told text top =
    keys_told text None top
    ++ units_told text (get_member (codes "units") top)
    ++ value_told text spot.Registers (get_member (codes "registers") top)
    ++ tables_told text (get_member (codes "units") top) (get_member (codes "ops") top)
