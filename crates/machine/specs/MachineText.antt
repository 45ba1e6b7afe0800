-- What a machine text means: the machine that it describes, or the first check that it fails.
--
-- Each check is a list of faults, and the checks stand one after another in the order in which they are made. The first
-- fault of the whole list is the answer. After it the list may hold more, which nobody sees.
use Rattle.std.specs.Prelude.{ℕ, pos, ◌==◌, nat_lt, not, ◌&&◌, Bool, true, false, if◌then◌else◌, codes, List, [], ◌∷◌, ◌++◌, length, map, Option, Some, None, option_map, is_some, unwrap_or, Result, Ok, Err, position}
use Rattle.machine_data.specs.declared.limits.TheConstants.{MAX_LATENCY, MAX_NAME, MAX_REGISTERS, MAX_ROWS, MAX_TEXT, MAX_UNITS}
use Rattle.std.specs.Prelude.{negsuc}
use Rattle.std.specs.List.{list_any, flat_map, before_first, after_first}
use Rattle.std.specs.Str.{all_ascii_digits}
use Rattle.std.specs.Str.Parse.{digits_value}
use Rattle.std.specs.Str.Lossy.{utf8_valid_len}
use Rattle.toml.specs.Data.{Data, string, integer, array, table, Items, no_items, item, Members, no_members, member, get_member}
use Rattle.toml.specs.Parse.{parse_document}
use Rattle.machine_data.specs.declared.alternative.Row.{Row}
use Rattle.reader_faults.specs.declared.machine.MachineFault.{MachineFault}
use Rattle.reader_faults.specs.declared.machine.MachineFault.TheVariants.{NotUtf8, NotToml, MissingKey, WrongType, UnknownKey, UnknownUnit, UnknownOpcode, RepeatedUnit, RepeatedRow, Limit}
use Rattle.machine_data.specs.Machines.{MachineData, OperationData, is_unit_word}
use Rattle.machine_data.specs.Opcodes.{word_of, all_opcodes, opcode_named, same_word}

abbrev pub Faults : Type 0
Faults = List MachineFault

-- the value, unless there is a fault
abbrev pub answer : {A : Type 0} → Faults → A → Result A MachineFault
answer [] value = Ok value
answer (fault ∷ faults) value = Err fault

-- the fault, where the test fails
abbrev pub unless : Bool → MachineFault → Faults
unless true fault = []
unless false fault = fault ∷ []

-- the test fails outside these limits
abbrev pub within : ℕ → ℕ → ℕ → Bool
within low high n = not (nat_lt n low) && not (nat_lt high n)

-- values in an array, and how many
abbrev pub data_of : Items → List Data
data_of no_items = []
data_of (item d ds) = d ∷ data_of ds

-- the values of a table beside their keys; the keys of a table that was read ascend by their bytes
abbrev pub entries_of : Members → List (List ℕ × Data)
entries_of no_members = []
entries_of (member key value rest) = (key, value) ∷ entries_of rest

-- keys that a table may not have, each printed after the path of the table
unfoldable pub unknown_keys : List ℕ → List (List ℕ) → Members → Faults
unknown_keys path known members =
    flat_map (λ entry. unless (list_any (same_word entry.0) known) (UnknownKey (path ++ entry.0))) (entries_of members)

-- units

abbrev pub text_of : Data → List ℕ
text_of (string text) = text
text_of _ = []

-- a text that has the form of a unit's name
abbrev pub is_unit_name : List ℕ → Bool
is_unit_name text = is_unit_word text && within 1 MAX_NAME (length text)

-- an element of `units`, after the names before it
unfoldable pub unit_faults : List (List ℕ) → Data → Faults
unit_faults before (string name) =
    unless (is_unit_name name) (Limit (codes "unit name"))
    ++ unless (not (list_any (λ other. same_word other name) before)) (RepeatedUnit name)
unit_faults before _ = WrongType (codes "units") ∷ []

-- a check of each element, after what the elements before it write
abbrev pub faults_in_turn : {A : Type 0} → (List A → Data → Faults) → (Data → A) → List A → List Data → Faults
faults_in_turn check written before [] = []
faults_in_turn check written before (d ∷ ds) = check before d ++ faults_in_turn check written (before ++ written d ∷ []) ds

unfoldable pub faults_of_units : Option Data → Faults
faults_of_units None = MissingKey (codes "units") ∷ []
faults_of_units (Some (array units)) =
    unless (within 1 MAX_UNITS (length (data_of units))) (Limit (codes "units"))
    ++ faults_in_turn unit_faults text_of [] (data_of units)
faults_of_units (Some _) = WrongType (codes "units") ∷ []

abbrev pub names_of : Option Data → List (List ℕ)
names_of (Some (array units)) = map text_of (data_of units)
names_of _ = []

-- numbers

-- an integer within limits
unfoldable pub faults_of_number : List ℕ → List ℕ → ℕ → ℕ → Option Data → Faults
faults_of_number path limit low high None = MissingKey path ∷ []
faults_of_number path limit low high (Some (integer (pos n))) = unless (within low high n) (Limit limit)
faults_of_number path limit low high (Some (integer (negsuc n))) = Limit limit ∷ []
faults_of_number path limit low high (Some _) = WrongType path ∷ []

abbrev pub number_in : Option Data → ℕ
number_in (Some (integer (pos n))) = n
number_in _ = 0

-- rows

-- the unit's name and the offset that a row's text `UNIT@NUM` writes
unfoldable pub row_words : List ℕ → Option (List ℕ × ℕ)
row_words text =
    let unit = before_first (λ c. c == 64) text in
    let offset = after_first (λ c. c == 64) text in
    if list_any (λ c. c == 64) text && is_unit_name unit && nat_lt 0 (length offset) && all_ascii_digits offset
    then Some (unit, digits_value 10 offset)
    else None

-- the words of the row that an element of an alternative writes, where it writes one
abbrev pub words_in : Data → Option (List ℕ × ℕ)
words_in (string text) = row_words text
words_in _ = None

-- the row of these words, by the number of its unit
abbrev pub row_of : List (List ℕ) → Option (List ℕ × ℕ) → Row
row_of units None = record { unit = 0; offset = 0 }
row_of units (Some words) = record { unit = unwrap_or (position (same_word words.0) units) 0; offset = words.1 }

-- the row that an element of an alternative writes
abbrev pub row_in : List (List ℕ) → Data → Row
row_in units d = row_of units (words_in d)

-- the two rows are of one unit and at one offset
abbrev pub same_row : Row → Row → Bool
same_row row other = (row.unit == other.unit) && (row.offset == other.offset)

-- the words of a row, after the rows before it
abbrev pub faults_of_words : List ℕ → List (List ℕ) → List Row → Option (List ℕ × ℕ) → Faults
faults_of_words path units before None = WrongType path ∷ []
faults_of_words path units before (Some words) =
    unless (within 0 63 words.1) (Limit (codes "offset"))
    ++ unless (list_any (same_word words.0) units) (UnknownUnit words.0)
    ++ unless (not (list_any (λ other. same_row other (row_of units (Some words))) before)) (RepeatedRow path)

-- an element of an alternative, after the rows before it
unfoldable pub row_faults : List ℕ → List (List ℕ) → List Row → Data → Faults
row_faults path units before d = faults_of_words path units before (words_in d)

-- an alternative
unfoldable pub alternative_faults : List ℕ → List (List ℕ) → Data → Faults
alternative_faults path units (array rows) =
    unless (within 1 MAX_ROWS (length (data_of rows))) (Limit (codes "rows"))
    ++ faults_in_turn (row_faults path units) (row_in units) [] (data_of rows)
alternative_faults path units _ = WrongType path ∷ []

unfoldable pub faults_of_alternatives : List ℕ → List (List ℕ) → Option Data → Faults
faults_of_alternatives path units None = MissingKey path ∷ []
faults_of_alternatives path units (Some (array alternatives)) =
    unless (within 1 8 (length (data_of alternatives))) (Limit (codes "alternatives"))
    ++ flat_map (alternative_faults path units) (data_of alternatives)
faults_of_alternatives path units (Some _) = WrongType path ∷ []

-- the rows of an alternative
abbrev pub rows_of : List (List ℕ) → Data → List Row
rows_of units (array rows) = map (row_in units) (data_of rows)
rows_of units _ = []

abbrev pub alternatives_of : List (List ℕ) → Option Data → List (List Row)
alternatives_of units (Some (array alternatives)) = map (rows_of units) (data_of alternatives)
alternatives_of units _ = []

-- tables

-- the key of an opcode's table, and of a key in it
abbrev pub path_of : List ℕ → List ℕ
path_of opcode = codes "ops." ++ opcode

abbrev pub path_in : List ℕ → List ℕ → List ℕ
path_in opcode key = (path_of opcode ++ codes ".") ++ key

-- the table of an opcode
unfoldable pub table_faults : List (List ℕ) → List ℕ → Data → Faults
table_faults units opcode (table keys) =
    unknown_keys (path_in opcode []) (codes "alts" ∷ codes "latency" ∷ []) keys
    ++ faults_of_number (path_in opcode (codes "latency")) (codes "latency") 1 MAX_LATENCY (get_member (codes "latency") keys)
    ++ faults_of_alternatives (path_in opcode (codes "alts")) units (get_member (codes "alts") keys)
table_faults units opcode _ = WrongType (path_of opcode) ∷ []

abbrev pub operation_of : List (List ℕ) → Data → OperationData
operation_of units (table keys) = record {
  latency = number_in (get_member (codes "latency") keys);
  alternatives = alternatives_of units (get_member (codes "alts") keys);
}
operation_of units _ = record { latency = 0; alternatives = [] }

-- a key of `ops` with its table
unfoldable pub entry_faults : List (List ℕ) → List ℕ × Data → Faults
entry_faults units entry = unless (is_some (opcode_named entry.0)) (UnknownOpcode entry.0) ++ table_faults units entry.0 entry.1

unfoldable pub faults_of_tables : List (List ℕ) → Option Data → Faults
faults_of_tables units None = MissingKey (codes "ops") ∷ []
faults_of_tables units (Some (table keys)) = flat_map (entry_faults units) (entries_of keys)
faults_of_tables units (Some _) = WrongType (codes "ops") ∷ []

abbrev pub keys_in : Option Data → Members
keys_in (Some (table keys)) = keys
keys_in _ = no_members

-- for each opcode its table, where it has one
abbrev pub tables_of : List (List ℕ) → Option Data → List (Option OperationData)
tables_of units ops = map (λ opcode. option_map (operation_of units) (get_member (word_of opcode) (keys_in ops))) all_opcodes

-- texts

-- all checks of a TOML tree, in order
unfoldable pub tree_faults : Members → Faults
tree_faults top =
    unknown_keys [] (codes "ops" ∷ codes "registers" ∷ codes "units" ∷ []) top
    ++ faults_of_units (get_member (codes "units") top)
    ++ faults_of_number (codes "registers") (codes "registers") 1 MAX_REGISTERS (get_member (codes "registers") top)
    ++ faults_of_tables (names_of (get_member (codes "units") top)) (get_member (codes "ops") top)

-- the machine that a TOML tree without a fault describes
unfoldable pub tree_machine : Members → MachineData
tree_machine top = record {
  units = names_of (get_member (codes "units") top);
  registers = number_in (get_member (codes "registers") top);
  tables = tables_of (names_of (get_member (codes "units") top)) (get_member (codes "ops") top);
}

-- the tree of a text, where the text is TOML
abbrev pub of_tree : Option Members → Result MachineData MachineFault
of_tree None = Err NotToml
of_tree (Some top) = answer (tree_faults top) (tree_machine top)

-- what a text means; the text is limited to 1,048,576 bytes
unfoldable pub machine_of : List ℕ → Result MachineData MachineFault
machine_of text =
    if nat_lt MAX_TEXT (length text) then Err (Limit (codes "text"))
    else if not (utf8_valid_len text == length text) then Err NotUtf8
    else of_tree (parse_document text)
