-- Each fault that is told of a tree is one that it has.
use Rattle.std.proofs.Common.{◌≡◌, ℕ, Bool, true, false, not, List, [], ◌++◌, length, take, Option, Some, None, codes, inl, inr, refl, sym}
use Rattle.std.proofs.lemmas.Bool.{cases_Bool}
use Rattle.std.proofs.lemmas.List.Elements.{Contains-append_cases}
use Rattle.std.specs.List.{Contains, flat_map, list_any}
use Rattle.std.specs.Prelude.{is_some}
use Rattle.toml.specs.Data.{Data, string, integer, float, boolean, datetime, array, table, Members, get_member}
use Rattle.machine_data.specs.Opcodes.{opcode_named}
use Rattle.machine.specs.MachineText.{data_of, entries_of, keys_in, words_in}
use Rattle.machine_lint.specs.HasFault.{HasAlternative, HasMachineFault, HasRow, HasTable, HasUnit, IsThere, limit, missing_key, repeated_row, repeated_unit, unknown_key, unknown_opcode, unknown_table_key, unknown_unit, wrong_type}
use Rattle.machine_lint.specs.Tree as tree
use Rattle.machine_lint.specs.Tree.{alternative_told, alternatives_told, entry_told, in_turn, inside_told, key_told, keys_told, row_told, table_told, tables_told, tree_told, unit_told, units_told, value_told}
use Rattle.machine_lint.specs.Values.{is_wanted, is_within, items_in, items_of, knows, row_words_in, same_text, same_words}
use Rattle.machine_lint.specs.declared.place.MachineLint.{MachineLint}
use Rattle.machine_lint.specs.declared.spots.Spot.{Spot}
use Rattle.machine_lint.specs.declared.spots.Spot.TheVariants as spot
use Rattle.machine_lint.proofs.Among.{flat-in, none-in, one-is, turn-in, unless-in}

not-false : (b : Bool) → not b ≡ false → b ≡ true
not-false true h = refl
not-false false h = cc

module _ (text : List ℕ) (top : Members) (y : MachineLint) where
  value-in : (at : Spot) (found : Option Data) → IsThere top at found → Contains (value_told text at found) y → HasMachineFault text top y
  unfolding value_told
  value-in at None there h = missing_key at there (sym (one-is _ y h))
  value-in at (Some value) there h = elim (cases_Bool (is_wanted at value)) [
    | inl passes ↦ let k = unless-in (is_within at value) _ y (rw passes at h) in limit at value there passes k.0 k.1
    | inr fails ↦ wrong_type at value there fails (sym (one-is _ y (rw fails at h)))
  ]

  top-keys-in : Contains (keys_told text None top) y → HasMachineFault text top y
  unfolding keys_told key_told
  top-keys-in h =
      let k = flat-in (key_told text None) (entries_of top) y h in
      let u = unless-in _ _ y k.2 in
      unknown_key k.0.0 k.0.1 k.1 u.0 u.1

  table-keys-in : (word : List ℕ) (keys : Members) → HasTable top word (table keys) → Contains (keys_told text (Some word) keys) y → HasMachineFault text top y
  unfolding keys_told key_told
  table-keys-in word keys has h =
      let k = flat-in (key_told text (Some word)) (entries_of keys) y h in
      let u = unless-in _ _ y k.2 in
      unknown_table_key word keys k.0.0 k.0.1 has k.1 u.0 u.1

  unit-in : (before : List Data) (unit : Data) → HasUnit top before unit → Contains (unit_told text before unit) y → HasMachineFault text top y
  unfolding unit_told tree.repeated_unit
  unit-in before unit has h = elim (Contains-append_cases (value_told text (spot.Unit (length before)) (Some unit)) (tree.repeated_unit text before unit) y h) [
    | inl own ↦ value-in (spot.Unit (length before)) (Some unit) (before, unit, has, refl, refl) own
    | inr twice ↦ let u = unless-in (not (list_any (λ other. same_text other unit) before)) _ y twice in repeated_unit before unit has (not-false _ u.0) u.1
  ]

  unit-list-in : (found : Option Data) → get_member (codes "units") top ≡ found → Contains (in_turn (unit_told text) [] (take 64 (items_of found))) y → HasMachineFault text top y
  unit-list-in None given h = absurd (none-in y h)
  unit-list-in (Some (string s)) given h = absurd (none-in y h)
  unit-list-in (Some (integer z)) given h = absurd (none-in y h)
  unit-list-in (Some (float x)) given h = absurd (none-in y h)
  unit-list-in (Some (boolean b)) given h = absurd (none-in y h)
  unit-list-in (Some (datetime t)) given h = absurd (none-in y h)
  unit-list-in (Some (array ds)) given h =
      let k = turn-in (unit_told text) [] (take 64 (data_of ds)) y h in
      unit-in k.before k.value (record { units = ds; given = given; follows = (k.after, k.is) }) k.among
  unit-list-in (Some (table ms)) given h = absurd (none-in y h)

  units-in : Contains (units_told text (get_member (codes "units") top)) y → HasMachineFault text top y
  unfolding units_told
  units-in h = elim (Contains-append_cases (value_told text spot.Units (get_member (codes "units") top)) _ y h) [
    | inl own ↦ value-in spot.Units (get_member (codes "units") top) refl own
    | inr each ↦ unit-list-in (get_member (codes "units") top) refl each
  ]

  row-in : (word : List ℕ) (n : ℕ) (before : List Data) (row : Data) → HasRow top word n before row → Contains (row_told text (get_member (codes "units") top) word n before row) y → HasMachineFault text top y
  unfolding row_told tree.unknown_unit tree.repeated_row
  row-in word n before row has h = elim (Contains-append_cases (value_told text (spot.Row word n (length before)) (Some row) ++ tree.unknown_unit text (get_member (codes "units") top) (spot.Row word n (length before)) row) (tree.repeated_row text (spot.Row word n (length before)) before row) y h) [
    | inl first ↦ elim (Contains-append_cases (value_told text (spot.Row word n (length before)) (Some row)) (tree.unknown_unit text (get_member (codes "units") top) (spot.Row word n (length before)) row) y first) [
      | inl own ↦ value-in (spot.Row word n (length before)) (Some row) (before, row, has, refl, refl) own
      | inr unknown ↦ let u = unless-in (knows (get_member (codes "units") top) (words_in row)) _ y unknown in unknown_unit word n before row has u.0 u.1
    ]
    | inr twice ↦ let u = unless-in (not (list_any (λ other. same_words (row_words_in other) (row_words_in row)) before)) _ y twice in repeated_row word n before row has (not-false _ u.0) u.1
  ]

  row-list-in : (word : List ℕ) (others : List Data) (d : Data) → HasAlternative top word others d
      → Contains (in_turn (row_told text (get_member (codes "units") top) word (length others)) [] (take 16 (items_in d))) y → HasMachineFault text top y
  row-list-in word others (string s) has h = absurd (none-in y h)
  row-list-in word others (integer z) has h = absurd (none-in y h)
  row-list-in word others (float x) has h = absurd (none-in y h)
  row-list-in word others (boolean b) has h = absurd (none-in y h)
  row-list-in word others (datetime t) has h = absurd (none-in y h)
  row-list-in word others (array ds) has h =
      let k = turn-in (row_told text (get_member (codes "units") top) word (length others)) [] (take 16 (data_of ds)) y h in
      row-in word (length others) k.before k.value (record { others = others; rows = ds; in' = has; number = refl; follows = (k.after, k.is) }) k.among
  row-list-in word others (table ms) has h = absurd (none-in y h)

  alternative-in : (word : List ℕ) (before : List Data) (d : Data) → HasAlternative top word before d → Contains (alternative_told text (get_member (codes "units") top) word before d) y → HasMachineFault text top y
  unfolding alternative_told
  alternative-in word before d has h = elim (Contains-append_cases (value_told text (spot.Alternative word (length before)) (Some d)) _ y h) [
    | inl own ↦ value-in (spot.Alternative word (length before)) (Some d) (before, d, has, refl, refl) own
    | inr each ↦ row-list-in word before d has each
  ]

  alternative-list-in : (word : List ℕ) (keys : Members) (found : Option Data) → HasTable top word (table keys) → get_member (codes "alts") keys ≡ found
      → Contains (in_turn (alternative_told text (get_member (codes "units") top) word) [] (take 8 (items_of found))) y → HasMachineFault text top y
  alternative-list-in word keys None has given h = absurd (none-in y h)
  alternative-list-in word keys (Some (string s)) has given h = absurd (none-in y h)
  alternative-list-in word keys (Some (integer z)) has given h = absurd (none-in y h)
  alternative-list-in word keys (Some (float x)) has given h = absurd (none-in y h)
  alternative-list-in word keys (Some (boolean b)) has given h = absurd (none-in y h)
  alternative-list-in word keys (Some (datetime t)) has given h = absurd (none-in y h)
  alternative-list-in word keys (Some (array ds)) has given h =
      let k = turn-in (alternative_told text (get_member (codes "units") top) word) [] (take 8 (data_of ds)) y h in
      alternative-in word k.before k.value (record { keys = keys; alternatives = ds; in' = has; given = given; follows = (k.after, k.is) }) k.among
  alternative-list-in word keys (Some (table ms)) has given h = absurd (none-in y h)

  alternatives-in : (word : List ℕ) (keys : Members) → HasTable top word (table keys) → Contains (alternatives_told text (get_member (codes "units") top) word (get_member (codes "alts") keys)) y → HasMachineFault text top y
  unfolding alternatives_told
  alternatives-in word keys has h = elim (Contains-append_cases (value_told text (spot.Alternatives word) (get_member (codes "alts") keys)) _ y h) [
    | inl own ↦ value-in (spot.Alternatives word) (get_member (codes "alts") keys) (keys, has, refl) own
    | inr each ↦ alternative-list-in word keys (get_member (codes "alts") keys) has refl each
  ]

  table-in : (word : List ℕ) (keys : Members) → HasTable top word (table keys) → Contains (table_told text (get_member (codes "units") top) word keys) y → HasMachineFault text top y
  unfolding table_told
  table-in word keys has h = elim (Contains-append_cases (keys_told text (Some word) keys ++ value_told text (spot.Latency word) (get_member (codes "latency") keys)) (alternatives_told text (get_member (codes "units") top) word (get_member (codes "alts") keys)) y h) [
    | inl first ↦ elim (Contains-append_cases (keys_told text (Some word) keys) (value_told text (spot.Latency word) (get_member (codes "latency") keys)) y first) [
      | inl unknown ↦ table-keys-in word keys has unknown
      | inr own ↦ value-in (spot.Latency word) (get_member (codes "latency") keys) (keys, has, refl) own
    ]
    | inr alternatives ↦ alternatives-in word keys has alternatives
  ]

  inside-in : (word : List ℕ) (d : Data) → HasTable top word d → Contains (inside_told text (get_member (codes "units") top) word d) y → HasMachineFault text top y
  unfolding inside_told
  inside-in word (string s) has h = absurd (none-in y h)
  inside-in word (integer z) has h = absurd (none-in y h)
  inside-in word (float x) has h = absurd (none-in y h)
  inside-in word (boolean b) has h = absurd (none-in y h)
  inside-in word (datetime t) has h = absurd (none-in y h)
  inside-in word (array ds) has h = absurd (none-in y h)
  inside-in word (table ms) has h = table-in word ms has h

  entry-in : (word : List ℕ) (d : Data) → HasTable top word d → Contains (entry_told text (get_member (codes "units") top) (word, d)) y → HasMachineFault text top y
  unfolding entry_told tree.unknown_opcode
  entry-in word d has h = elim (Contains-append_cases (tree.unknown_opcode text word d ++ value_told text (spot.Table word) (Some d)) (inside_told text (get_member (codes "units") top) word d) y h) [
    | inl first ↦ elim (Contains-append_cases (tree.unknown_opcode text word d) (value_told text (spot.Table word) (Some d)) y first) [
      | inl unknown ↦ let u = unless-in (is_some (opcode_named word)) _ y unknown in unknown_opcode word d has u.0 u.1
      | inr own ↦ value-in (spot.Table word) (Some d) (d, has, refl) own
    ]
    | inr inside ↦ inside-in word d has inside
  ]

  entries-in : (found : Option Data) → get_member (codes "ops") top ≡ found → Contains (flat_map (entry_told text (get_member (codes "units") top)) (entries_of (keys_in found))) y → HasMachineFault text top y
  entries-in None given h = absurd (none-in y h)
  entries-in (Some (string s)) given h = absurd (none-in y h)
  entries-in (Some (integer z)) given h = absurd (none-in y h)
  entries-in (Some (float x)) given h = absurd (none-in y h)
  entries-in (Some (boolean b)) given h = absurd (none-in y h)
  entries-in (Some (datetime t)) given h = absurd (none-in y h)
  entries-in (Some (array ds)) given h = absurd (none-in y h)
  entries-in (Some (table ms)) given h =
      let k = flat-in (entry_told text (get_member (codes "units") top)) (entries_of ms) y h in
      entry-in k.0.0 k.0.1 (record { tables = ms; given = given; among = k.1 }) k.2

  tables-in : Contains (tables_told text (get_member (codes "units") top) (get_member (codes "ops") top)) y → HasMachineFault text top y
  unfolding tables_told
  tables-in h = elim (Contains-append_cases (value_told text spot.Ops (get_member (codes "ops") top)) _ y h) [
    | inl own ↦ value-in spot.Ops (get_member (codes "ops") top) refl own
    | inr each ↦ entries-in (get_member (codes "ops") top) refl each
  ]

  pub tree-in : Contains (tree_told text top) y → HasMachineFault text top y
  unfolding tree_told
  tree-in h = elim (Contains-append_cases (keys_told text None top ++ units_told text (get_member (codes "units") top) ++ value_told text spot.Registers (get_member (codes "registers") top)) (tables_told text (get_member (codes "units") top) (get_member (codes "ops") top)) y h) [
    | inl first ↦ elim (Contains-append_cases (keys_told text None top ++ units_told text (get_member (codes "units") top)) (value_told text spot.Registers (get_member (codes "registers") top)) y first) [
      | inl two ↦ elim (Contains-append_cases (keys_told text None top) (units_told text (get_member (codes "units") top)) y two) [
        | inl unknown ↦ top-keys-in unknown
        | inr units ↦ units-in units
      ]
      | inr own ↦ value-in spot.Registers (get_member (codes "registers") top) refl own
    ]
    | inr tables ↦ tables-in tables
  ]
