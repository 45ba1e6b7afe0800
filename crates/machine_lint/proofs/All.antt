-- Each fault that a tree has is told of it.
use Rattle.std.proofs.Common.{◌≡◌, ℕ, true, false, not, List, [], ◌++◌, length, take, Option, Some, None, codes, ap}
use Rattle.std.proofs.lemmas.List.Elements.{Contains-append_left, Contains-append_right}
use Rattle.std.specs.List.{Contains, flat_map, list_any}
use Rattle.toml.specs.Data.{Data, array, table, Members, get_member}
use Rattle.machine_data.specs.Opcodes.{same_word}
use Rattle.machine.specs.MachineText.{data_of, entries_of, keys_in}
use Rattle.reader_faults.specs.declared.machine.MachineFault.TheVariants.{Limit, UnknownKey, WrongType}
use Rattle.machine_lint.specs.Spots.{key_of, limit_of}
use Rattle.machine_lint.specs.HasFault.{HasAlternative, HasMachineFault, HasRow, HasTable, HasUnit, IsThere, limit, missing_key, repeated_row, repeated_unit, unknown_key, unknown_opcode, unknown_table_key, unknown_unit, wrong_type}
use Rattle.machine_lint.specs.Tree as tree
use Rattle.machine_lint.specs.Tree.{alternative_told, alternatives_told, entry_told, in_turn, inside_told, key_told, keys_told, missed, row_told, table_told, tables_told, told, tree_told, unit_told, units_told, value_told}
use Rattle.machine_lint.specs.Values.{is_wanted, is_within}
use Rattle.machine_lint.specs.declared.place.MachineLint.{MachineLint}
use Rattle.machine_lint.specs.declared.spots.Spot.{Spot}
use Rattle.machine_lint.specs.declared.spots.Spot.TheVariants as spot
use Rattle.machine_lint.proofs.Among.{in-flat, in-turn, in-unless, one-in}

module _ (text : List ℕ) (top : Members) (y : MachineLint) where
  abbrev Units : Option Data
  Units = get_member (codes "units") top

  in-top-keys : Contains (keys_told text None top) y → Contains (tree_told text top) y
  unfolding tree_told
  in-top-keys h = Contains-append_left _ _ y (Contains-append_left _ _ y (Contains-append_left _ _ y h))

  in-units : Contains (units_told text Units) y → Contains (tree_told text top) y
  unfolding tree_told
  in-units h = Contains-append_left _ _ y (Contains-append_left _ _ y (Contains-append_right (keys_told text None top) _ y h))

  in-registers : Contains (value_told text spot.Registers (get_member (codes "registers") top)) y → Contains (tree_told text top) y
  unfolding tree_told
  in-registers h = Contains-append_left _ _ y (Contains-append_right (keys_told text None top ++ units_told text Units) _ y h)

  in-tables : Contains (tables_told text Units (get_member (codes "ops") top)) y → Contains (tree_told text top) y
  unfolding tree_told
  in-tables h = Contains-append_right (keys_told text None top ++ units_told text Units ++ value_told text spot.Registers (get_member (codes "registers") top)) _ y h

  in-ops : Contains (value_told text spot.Ops (get_member (codes "ops") top)) y → Contains (tree_told text top) y
  unfolding tables_told
  in-ops h = in-tables (Contains-append_left _ _ y h)

  in-entries : Contains (flat_map (entry_told text Units) (entries_of (keys_in (get_member (codes "ops") top)))) y → Contains (tree_told text top) y
  unfolding tables_told
  in-entries h = in-tables (Contains-append_right (value_told text spot.Ops (get_member (codes "ops") top)) _ y h)

  in-entry : (word : List ℕ) (d : Data) → HasTable top word d → Contains (entry_told text Units (word, d)) y → Contains (tree_told text top) y
  in-entry word d has h = in-entries (rw has.given (in-flat (entry_told text Units) (entries_of has.tables) (word, d) y has.among h))

  in-word : (word : List ℕ) (d : Data) → HasTable top word d → Contains (tree.unknown_opcode text word d) y → Contains (tree_told text top) y
  unfolding entry_told
  in-word word d has h = in-entry word d has (Contains-append_left _ _ y (Contains-append_left _ _ y h))

  in-table-value : (word : List ℕ) (d : Data) → HasTable top word d → Contains (value_told text (spot.Table word) (Some d)) y → Contains (tree_told text top) y
  unfolding entry_told
  in-table-value word d has h = in-entry word d has (Contains-append_left _ _ y (Contains-append_right (tree.unknown_opcode text word d) _ y h))

  in-table : (word : List ℕ) (keys : Members) → HasTable top word (table keys) → Contains (table_told text Units word keys) y → Contains (tree_told text top) y
  unfolding entry_told inside_told
  in-table word keys has h = in-entry word (table keys) has (Contains-append_right (tree.unknown_opcode text word (table keys) ++ value_told text (spot.Table word) (Some (table keys))) _ y h)

  in-table-keys : (word : List ℕ) (keys : Members) → HasTable top word (table keys) → Contains (keys_told text (Some word) keys) y → Contains (tree_told text top) y
  unfolding table_told
  in-table-keys word keys has h = in-table word keys has (Contains-append_left _ _ y (Contains-append_left _ _ y h))

  in-latency : (word : List ℕ) (keys : Members) → HasTable top word (table keys) → Contains (value_told text (spot.Latency word) (get_member (codes "latency") keys)) y → Contains (tree_told text top) y
  unfolding table_told
  in-latency word keys has h = in-table word keys has (Contains-append_left _ _ y (Contains-append_right (keys_told text (Some word) keys) _ y h))

  in-alternatives : (word : List ℕ) (keys : Members) → HasTable top word (table keys) → Contains (alternatives_told text Units word (get_member (codes "alts") keys)) y → Contains (tree_told text top) y
  unfolding table_told
  in-alternatives word keys has h =
      in-table word keys has (Contains-append_right (keys_told text (Some word) keys ++ value_told text (spot.Latency word) (get_member (codes "latency") keys)) _ y h)

  in-alternatives-value : (word : List ℕ) (keys : Members) → HasTable top word (table keys) → Contains (value_told text (spot.Alternatives word) (get_member (codes "alts") keys)) y → Contains (tree_told text top) y
  unfolding alternatives_told
  in-alternatives-value word keys has h = in-alternatives word keys has (Contains-append_left _ _ y h)

  in-alternative : (word : List ℕ) (before : List Data) (d : Data) → HasAlternative top word before d → Contains (alternative_told text Units word before d) y → Contains (tree_told text top) y
  unfolding alternatives_told
  in-alternative word before d has h =
      let among : Contains (in_turn (alternative_told text Units word) [] (take 8 (data_of has.alternatives))) y =
      rw has.follows.1 (in-turn (alternative_told text Units word) [] before d has.follows.0 y h) in
      in-alternatives word has.keys has.in' (Contains-append_right (value_told text (spot.Alternatives word) (get_member (codes "alts") has.keys)) _ y (rw has.given among))

  in-alternative-value : (word : List ℕ) (before : List Data) (d : Data) → HasAlternative top word before d → Contains (value_told text (spot.Alternative word (length before)) (Some d)) y → Contains (tree_told text top) y
  unfolding alternative_told
  in-alternative-value word before d has h = in-alternative word before d has (Contains-append_left _ _ y h)

  in-row : (word : List ℕ) (n : ℕ) (before : List Data) (row : Data) → HasRow top word n before row → Contains (row_told text Units word n before row) y → Contains (tree_told text top) y
  unfolding alternative_told
  in-row word n before row has h =
      let among : Contains (in_turn (row_told text Units word (length has.others)) [] (take 16 (data_of has.rows))) y =
      rw has.follows.1 (in-turn (row_told text Units word (length has.others)) [] before row has.follows.0 y (rw has.number at h)) in
      in-alternative word has.others (array has.rows) has.in' (Contains-append_right (value_told text (spot.Alternative word (length has.others)) (Some (array has.rows))) _ y among)

  in-row-value : (word : List ℕ) (n : ℕ) (before : List Data) (row : Data) → HasRow top word n before row → Contains (value_told text (spot.Row word n (length before)) (Some row)) y → Contains (tree_told text top) y
  unfolding row_told
  in-row-value word n before row has h = in-row word n before row has (Contains-append_left _ _ y (Contains-append_left _ _ y h))

  in-row-unit : (word : List ℕ) (n : ℕ) (before : List Data) (row : Data) → HasRow top word n before row → Contains (tree.unknown_unit text Units (spot.Row word n (length before)) row) y → Contains (tree_told text top) y
  unfolding row_told
  in-row-unit word n before row has h = in-row word n before row has (Contains-append_left _ _ y (Contains-append_right (value_told text (spot.Row word n (length before)) (Some row)) _ y h))

  in-row-repeat : (word : List ℕ) (n : ℕ) (before : List Data) (row : Data) → HasRow top word n before row → Contains (tree.repeated_row text (spot.Row word n (length before)) before row) y → Contains (tree_told text top) y
  unfolding row_told
  in-row-repeat word n before row has h =
      in-row word n before row has (Contains-append_right (value_told text (spot.Row word n (length before)) (Some row) ++ tree.unknown_unit text Units (spot.Row word n (length before)) row) _ y h)

  in-unit : (before : List Data) (unit : Data) → HasUnit top before unit → Contains (unit_told text before unit) y → Contains (tree_told text top) y
  unfolding units_told
  in-unit before unit has h =
      let among : Contains (in_turn (unit_told text) [] (take 64 (data_of has.units))) y = rw has.follows.1 (in-turn (unit_told text) [] before unit has.follows.0 y h) in
      in-units (Contains-append_right (value_told text spot.Units Units) _ y (rw has.given among))

  in-units-value : Contains (value_told text spot.Units Units) y → Contains (tree_told text top) y
  unfolding units_told
  in-units-value h = in-units (Contains-append_left _ _ y h)

  in-unit-value : (before : List Data) (unit : Data) → HasUnit top before unit → Contains (value_told text (spot.Unit (length before)) (Some unit)) y → Contains (tree_told text top) y
  unfolding unit_told
  in-unit-value before unit has h = in-unit before unit has (Contains-append_left _ _ y h)

  in-unit-repeat : (before : List Data) (unit : Data) → HasUnit top before unit → Contains (tree.repeated_unit text before unit) y → Contains (tree_told text top) y
  unfolding unit_told
  in-unit-repeat before unit has h = in-unit before unit has (Contains-append_right (value_told text (spot.Unit (length before)) (Some unit)) _ y h)

  in-value : (at : Spot) (found : Option Data) → IsThere top at found → Contains (value_told text at found) y → Contains (tree_told text top) y
  in-value spot.Whole found there h = absurd there
  in-value (spot.TopKey key) found there h = absurd there
  in-value spot.Units found there h = in-units-value (rw there h)
  in-value (spot.Unit n) found there h = in-unit-value there.0 there.1 there.2 (rw (there.3, there.4) at h)
  in-value spot.Registers found there h = in-registers (rw there h)
  in-value spot.Ops found there h = in-ops (rw there h)
  in-value (spot.Table word) found there h = in-table-value word there.0 there.1 (rw there.2 at h)
  in-value (spot.TableKey word key) found there h = absurd there
  in-value (spot.Latency word) found there h = in-latency word there.0 there.1 (rw there.2 h)
  in-value (spot.Alternatives word) found there h = in-alternatives-value word there.0 there.1 (rw there.2 h)
  in-value (spot.Alternative word n) found there h = in-alternative-value word there.0 there.1 there.2 (rw (there.3, there.4) at h)
  in-value (spot.Row word n m) found there h = in-row-value word n there.0 there.1 there.2 (rw (there.3, there.4) at h)

  missed-value : (at : Spot) → y ≡ missed at → Contains (value_told text at None) y
  unfolding value_told
  missed-value at is = one-in _ y is

  wrong-value : (at : Spot) (value : Data) → is_wanted at value ≡ false → y ≡ told text at value (WrongType (key_of at)) → Contains (value_told text at (Some value)) y
  unfolding value_told
  wrong-value at value fails is = rw fails (one-in _ y is)

  limit-value : (at : Spot) (value : Data) → is_wanted at value ≡ true → is_within at value ≡ false → y ≡ told text at value (Limit (limit_of at)) → Contains (value_told text at (Some value)) y
  unfolding value_told
  limit-value at value passes fails is = rw (passes, fails) (one-in _ y is)

  in-key : (word : Option (List ℕ)) (members : Members) (key : List ℕ) (value : Data) → Contains (entries_of members) (key, value) → list_any (same_word key) (tree.known_keys word) ≡ false
      → y ≡ told text (tree.key_spot word key) value (UnknownKey (key_of (tree.key_spot word key))) → Contains (keys_told text word members) y
  unfolding keys_told key_told
  in-key word members key value among fails is = in-flat (key_told text word) (entries_of members) (key, value) y among (in-unless _ _ y fails is)

  pub tree-all : HasMachineFault text top y → Contains (tree_told text top) y
  unfolding tree.unknown_opcode tree.unknown_unit tree.repeated_unit tree.repeated_row
  tree-all (missing_key at there is) = in-value at None there (missed-value at is)
  tree-all (wrong_type at value there fails is) = in-value at (Some value) there (wrong-value at value fails is)
  tree-all (limit at value there passes fails is) = in-value at (Some value) there (limit-value at value passes fails is)
  tree-all (unknown_key key value among fails is) = in-top-keys (in-key None top key value among fails is)
  tree-all (unknown_table_key word keys key value has among fails is) = in-table-keys word keys has (in-key (Some word) keys key value among fails is)
  tree-all (unknown_opcode word value has fails is) = in-word word value has (in-unless _ _ y fails is)
  tree-all (repeated_unit before unit has twice is) = in-unit-repeat before unit has (in-unless _ _ y (ap not twice) is)
  tree-all (unknown_unit word n before row has fails is) = in-row-unit word n before row has (in-unless _ _ y fails is)
  tree-all (repeated_row word n before row has twice is) = in-row-repeat word n before row has (in-unless _ _ y (ap not twice) is)
