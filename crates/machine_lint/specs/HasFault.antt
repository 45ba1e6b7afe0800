-- When a machine text has a fault, by what its tree has. The faults of a text are those of this relation.
use Rattle.std.specs.Prelude.{◌≡◌, ℕ, true, false, codes, List, [], ◌∷◌, ◌++◌, Contains, length, take, Option, Some, None, is_some}
use Rattle.std.specs.List.{list_any}
use Rattle.toml.specs.Data.{Data, array, table, Items, Members, get_member}
use Rattle.machine_data.specs.Opcodes.{opcode_named, same_word}
use Rattle.machine_data.specs.declared.limits.TheConstants.{MAX_ALTERNATIVES, MAX_ROWS, MAX_UNITS}
use Rattle.machine.specs.MachineText.{data_of, entries_of, text_of, words_in}
use Rattle.reader_faults.specs.declared.machine.MachineFault.TheVariants.{Limit, RepeatedRow, RepeatedUnit, UnknownKey, UnknownOpcode, UnknownUnit, WrongType}
use Rattle.machine_lint.specs.Spots.{key_of, limit_of}
use Rattle.machine_lint.specs.Tree.{missed, told}
use Rattle.machine_lint.specs.Values.{is_wanted, is_within, knows, row_words_in, same_text, same_words, unit_named}
use Rattle.machine_lint.specs.declared.place.MachineLint.{MachineLint}
use Rattle.machine_lint.specs.declared.spots.Spot.{Spot}
use Rattle.machine_lint.specs.declared.spots.Spot.TheVariants as spot

-- an element stands in a list after just these
abbrev pub Follows : List Data → List Data → Data → Type 0
Follows elements before value = (after : List Data) × (elements ≡ before ++ value ∷ after)

-- `units` has this element after these. Of an array that is too long the first elements are judged alone
pub record HasUnit (top : Members) (before : List Data) (unit : Data) : Type 0 where
  pub units : Items
  pub given : get_member (codes "units") top ≡ Some (array units)
  pub follows : Follows (take MAX_UNITS (data_of units)) before unit

-- `ops` has this at a word
pub record HasTable (top : Members) (word : List ℕ) (value : Data) : Type 0 where
  pub tables : Members
  pub given : get_member (codes "ops") top ≡ Some (table tables)
  pub among : Contains (entries_of tables) (word, value)

-- the table of a word has this alternative after these
pub record HasAlternative (top : Members) (word : List ℕ) (before : List Data) (alternative : Data) : Type 0 where
  pub keys : Members
  pub alternatives : Items
  pub in' : HasTable top word (table keys)
  pub given : get_member (codes "alts") keys ≡ Some (array alternatives)
  pub follows : Follows (take MAX_ALTERNATIVES (data_of alternatives)) before alternative

-- an alternative of the table has this row after these
pub record HasRow (top : Members) (word : List ℕ) (n : ℕ) (before : List Data) (row : Data) : Type 0 where
  pub others : List Data
  pub rows : Items
  pub in' : HasAlternative top word others (array rows)
  pub number : n ≡ length others
  pub follows : Follows (take MAX_ROWS (data_of rows)) before row

-- the tree has this there, or nothing where a key has to be
abbrev pub IsThere : Members → Spot → Option Data → Type 0
IsThere top spot.Whole found = ⊥
IsThere top (spot.TopKey key) found = ⊥
IsThere top spot.Units found = get_member (codes "units") top ≡ found
IsThere top (spot.Unit n) found = (before : List Data) × (unit : Data) × HasUnit top before unit × (n ≡ length before) × (found ≡ Some unit)
IsThere top spot.Registers found = get_member (codes "registers") top ≡ found
IsThere top spot.Ops found = get_member (codes "ops") top ≡ found
IsThere top (spot.Table word) found = (value : Data) × HasTable top word value × (found ≡ Some value)
IsThere top (spot.TableKey word key) found = ⊥
IsThere top (spot.Latency word) found = (keys : Members) × HasTable top word (table keys) × (get_member (codes "latency") keys ≡ found)
IsThere top (spot.Alternatives word) found = (keys : Members) × HasTable top word (table keys) × (get_member (codes "alts") keys ≡ found)
IsThere top (spot.Alternative word n) found =
    (before : List Data) × (value : Data) × HasAlternative top word before value × (n ≡ length before) × (found ≡ Some value)
IsThere top (spot.Row word n m) found = (before : List Data) × (row : Data) × HasRow top word n before row × (m ≡ length before) × (found ≡ Some row)

-- a text whose tree is this has a fault: one rule for each kind
pub data HasMachineFault (text : List ℕ) (top : Members) (lint : MachineLint) : Type 0 where
  missing_key : (at : Spot) → IsThere top at None → lint ≡ missed at → HasMachineFault text top lint
  wrong_type : (at : Spot) (value : Data) → IsThere top at (Some value) → is_wanted at value ≡ false
      → lint ≡ told text at value (WrongType (key_of at)) → HasMachineFault text top lint
  limit : (at : Spot) (value : Data) → IsThere top at (Some value) → is_wanted at value ≡ true → is_within at value ≡ false
      → lint ≡ told text at value (Limit (limit_of at)) → HasMachineFault text top lint
  unknown_key : (key : List ℕ) (value : Data) → Contains (entries_of top) (key, value)
      → list_any (same_word key) (codes "ops" ∷ codes "registers" ∷ codes "units" ∷ []) ≡ false
      → lint ≡ told text (spot.TopKey key) value (UnknownKey key) → HasMachineFault text top lint
  unknown_table_key : (word : List ℕ) (keys : Members) (key : List ℕ) (value : Data) → HasTable top word (table keys) → Contains (entries_of keys) (key, value)
      → list_any (same_word key) (codes "alts" ∷ codes "latency" ∷ []) ≡ false
      → lint ≡ told text (spot.TableKey word key) value (UnknownKey (key_of (spot.TableKey word key))) → HasMachineFault text top lint
  unknown_opcode : (word : List ℕ) (value : Data) → HasTable top word value → is_some (opcode_named word) ≡ false
      → lint ≡ told text (spot.Table word) value (UnknownOpcode word) → HasMachineFault text top lint
  repeated_unit : (before : List Data) (unit : Data) → HasUnit top before unit → list_any (λ other. same_text other unit) before ≡ true
      → lint ≡ told text (spot.Unit (length before)) unit (RepeatedUnit (text_of unit)) → HasMachineFault text top lint
  unknown_unit : (word : List ℕ) (n : ℕ) (before : List Data) (row : Data) → HasRow top word n before row
      → knows (get_member (codes "units") top) (words_in row) ≡ false
      → lint ≡ told text (spot.Row word n (length before)) row (UnknownUnit (unit_named (words_in row))) → HasMachineFault text top lint
  repeated_row : (word : List ℕ) (n : ℕ) (before : List Data) (row : Data) → HasRow top word n before row
      → list_any (λ other. same_words (row_words_in other) (row_words_in row)) before ≡ true
      → lint ≡ told text (spot.Row word n (length before)) row (RepeatedRow (key_of (spot.Row word n (length before)))) → HasMachineFault text top lint
