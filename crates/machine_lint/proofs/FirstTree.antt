-- .. of the tables, and of the whole tree.
use Rattle.std.proofs.Common.{◌≡◌, ℕ, List, [], ◌∷◌, ◌++◌, length, map, take, Option, Some, None, codes, refl, ap, ◌∙◌, append_assoc}
use Rattle.std.proofs.lemmas.Option.{same_Some}
use Rattle.std.specs.List.{flat_map, list_any}
use Rattle.std.specs.Prelude.{is_some}
use Rattle.toml.specs.Data.{Data, string, integer, float, boolean, datetime, array, table, Members, get_member}
use Rattle.machine_data.specs.Machines.{MachineData}
use Rattle.machine_data.specs.Opcodes.{opcode_named, same_word}
use Rattle.reader_faults.specs.declared.machine.MachineFault.{MachineFault}
use Rattle.reader_faults.specs.declared.machine.MachineFault.TheVariants.{Limit, UnknownOpcode}
use Rattle.machine.specs.MachineText.{Faults, alternative_faults, answer, data_of, entries_of, entry_faults, faults_in_turn, faults_of_alternatives, faults_of_number, faults_of_tables, faults_of_units, names_of, path_in, row_faults, row_in, table_faults, text_of, tree_faults, tree_machine, unit_faults, unknown_keys, unless, within}
use Rattle.machine.proofs.texts.Texts.{list_any-map}
use Rattle.machine_lint.specs.Lints.{BeginsAs}
use Rattle.machine_lint.specs.Tree.{Lints, alternative_told, alternatives_told, entry_told, in_turn, inside_told, keys_told, row_told, table_told, tables_told, told, told_unless, tree_told, units_told, unknown_opcode, value_told}
use Rattle.machine_lint.specs.Values.{is_unit_of, same_text}
use Rattle.machine_lint.specs.declared.spots.Spot.TheVariants as spot
use Rattle.machine_lint.proofs.First.{Same, all-taken, faults_in, first_fault, is-string, none-left, none-right, same-append, same-flat, same-keys, same-latency, same-registers, same-turns, same-units, same-unless, table-key, top-key}
use Rattle.machine_lint.proofs.FirstRows.{same-rows}

module _ (text : List ℕ) (given : Option Data) (units : List (List ℕ)) (knows-as : (name : List ℕ) → is_unit_of given name ≡ list_any (same_word name) units) (word : List ℕ) where
  same-alternative : (before : List Data) (d : Data) → Same (alternative_told text given word before d) (alternative_faults (path_in word (codes "alts")) units d)
  unfolding alternative_told alternative_faults value_told
  same-alternative before (string s) = refl
  same-alternative before (integer z) = refl
  same-alternative before (float x) = refl
  same-alternative before (boolean b) = refl
  same-alternative before (datetime t) = refl
  same-alternative before (array ds) =
      let b : Lints = in_turn (row_told text given word (length before)) [] (take 16 (data_of ds)) in
      let B : Faults = faults_in_turn (row_faults (path_in word (codes "alts")) units) (row_in units) [] (data_of ds) in
      let A : Faults = unless (within 1 16 (length (data_of ds))) (Limit (codes "rows")) in
      let rest : first_fault A ≡ None → Same b B = λ none. rw (all-taken 16 (data_of ds) (Limit (codes "rows")) none) (same-rows units text given knows-as word (length before) [] [] tt (data_of ds)) in
      same-append (told_unless (within 1 16 (length (data_of ds))) (told text (spot.Alternative word (length before)) (array ds) (Limit (codes "rows")))) b A B (same-unless _ _) rest
  same-alternative before (table ms) = refl

  same-alternatives : (found : Option Data) → Same (alternatives_told text given word found) (faults_of_alternatives (path_in word (codes "alts")) units found)
  unfolding alternatives_told faults_of_alternatives value_told
  same-alternatives None = refl
  same-alternatives (Some (string s)) = refl
  same-alternatives (Some (integer z)) = refl
  same-alternatives (Some (float x)) = refl
  same-alternatives (Some (boolean b)) = refl
  same-alternatives (Some (datetime t)) = refl
  same-alternatives (Some (array ds)) =
      let b : Lints = in_turn (alternative_told text given word) [] (take 8 (data_of ds)) in
      let B : Faults = flat_map (alternative_faults (path_in word (codes "alts")) units) (data_of ds) in
      let A : Faults = unless (within 1 8 (length (data_of ds))) (Limit (codes "alternatives")) in
      let rest : first_fault A ≡ None → Same b B = λ none.
      rw (all-taken 8 (data_of ds) (Limit (codes "alternatives")) none) (same-turns (alternative_told text given word) (alternative_faults (path_in word (codes "alts")) units) same-alternative [] (data_of ds)) in
      same-append (told_unless (within 1 8 (length (data_of ds))) (told text (spot.Alternatives word) (array ds) (Limit (codes "alternatives")))) b A B (same-unless _ _) rest
  same-alternatives (Some (table ms)) = refl

  same-table : (keys : Members) → Same (table_told text given word keys) (table_faults units word (table keys))
  unfolding table_told table_faults
  same-table keys =
      let a : Lints = keys_told text (Some word) keys in
      let b : Lints = value_told text (spot.Latency word) (get_member (codes "latency") keys) in
      let A : Faults = unknown_keys (path_in word []) (codes "alts" ∷ codes "latency" ∷ []) keys in
      let B : Faults = faults_of_number (path_in word (codes "latency")) (codes "latency") 1 64 (get_member (codes "latency") keys) in
      same-append (a ++ b) (alternatives_told text given word (get_member (codes "alts") keys)) (A ++ B) (faults_of_alternatives (path_in word (codes "alts")) units (get_member (codes "alts") keys))
      (same-append a b A B (same-keys text (Some word) (path_in word []) (table-key text word) keys) (λ none. same-latency text word (get_member (codes "latency") keys)))
      (λ none. same-alternatives (get_member (codes "alts") keys))

  same-inside : (d : Data) → Same (value_told text (spot.Table word) (Some d) ++ inside_told text given word d) (table_faults units word d)
  unfolding inside_told value_told table_faults
  same-inside (string s) = refl
  same-inside (integer z) = refl
  same-inside (float x) = refl
  same-inside (boolean b) = refl
  same-inside (datetime t) = refl
  same-inside (array ds) = refl
  same-inside (table ms) = same-table ms

module _ (text : List ℕ) (given : Option Data) (units : List (List ℕ)) (knows-as : (name : List ℕ) → is_unit_of given name ≡ list_any (same_word name) units) where
  same-entry : (entry : List ℕ × Data) → Same (entry_told text given entry) (entry_faults units entry)
  unfolding entry_told entry_faults unknown_opcode
  same-entry entry =
      let a : Lints = told_unless (is_some (opcode_named entry.0)) (told text (spot.Table entry.0) entry.1 (UnknownOpcode entry.0)) in
      let b : Lints = value_told text (spot.Table entry.0) (Some entry.1) in
      let c : Lints = inside_told text given entry.0 entry.1 in
      let whole : Same (a ++ (b ++ c)) (unless (is_some (opcode_named entry.0)) (UnknownOpcode entry.0) ++ table_faults units entry.0 entry.1) =
      same-append a (b ++ c) (unless (is_some (opcode_named entry.0)) (UnknownOpcode entry.0)) (table_faults units entry.0 entry.1) (same-unless _ _) (λ none. same-inside text given units knows-as entry.0 entry.1) in
      ap (λ (l : Lints). first_fault (faults_in l)) (append_assoc a b c) ∙ whole

  same-tables : (found : Option Data) → Same (tables_told text given found) (faults_of_tables units found)
  unfolding tables_told faults_of_tables value_told
  same-tables None = refl
  same-tables (Some (string s)) = refl
  same-tables (Some (integer z)) = refl
  same-tables (Some (float x)) = refl
  same-tables (Some (boolean b)) = refl
  same-tables (Some (datetime t)) = refl
  same-tables (Some (array ds)) = refl
  same-tables (Some (table ms)) = same-flat (entry_told text given) (entry_faults units) same-entry (entries_of ms)

-- units without a fault are known by their names

all-strings : (names : List (List ℕ)) (ds : List Data) → first_fault (faults_in_turn unit_faults text_of names ds) ≡ None → ds ≡ map string (map text_of ds)
all-strings names [] h = refl
all-strings names (d ∷ ds) h =
    let here : d ≡ string (text_of d) = is-string names d (none-left (unit_faults names d) (faults_in_turn unit_faults text_of (names ++ text_of d ∷ []) ds) h) in
    let rest : ds ≡ map string (map text_of ds) = all-strings (names ++ text_of d ∷ []) ds (none-right (unit_faults names d) (faults_in_turn unit_faults text_of (names ++ text_of d ∷ []) ds) h) in
    ap (λ (v : Data). v ∷ ds) here ∙ ap (λ (vs : List Data). string (text_of d) ∷ vs) rest

any-named : (name : List ℕ) (names : List (List ℕ)) → list_any (λ unit. same_text (string name) unit) (map string names) ≡ list_any (same_word name) names
any-named name names = list_any-map (same_text (string name)) string names

knows-named : (found : Option Data) → first_fault (faults_of_units found) ≡ None → (name : List ℕ) → is_unit_of found name ≡ list_any (same_word name) (names_of found)
unfolding faults_of_units
knows-named None h name = cc
knows-named (Some (string s)) h name = cc
knows-named (Some (integer z)) h name = cc
knows-named (Some (float x)) h name = cc
knows-named (Some (boolean b)) h name = cc
knows-named (Some (datetime t)) h name = cc
knows-named (Some (array ds)) h name =
    let are : data_of ds ≡ map string (map text_of (data_of ds)) =
    all-strings [] (data_of ds) (none-right (unless (within 1 64 (length (data_of ds))) (Limit (codes "units"))) (faults_in_turn unit_faults text_of [] (data_of ds)) h) in
    ap (λ (vs : List Data). list_any (λ unit. same_text (string name) unit) vs) are ∙ any-named name (map text_of (data_of ds))
knows-named (Some (table ms)) h name = cc

pub same-tree : (text : List ℕ) (top : Members) → Same (tree_told text top) (tree_faults top)
unfolding tree_told tree_faults
same-tree text top =
    let a : Lints = keys_told text None top in
    let b : Lints = units_told text (get_member (codes "units") top) in
    let c : Lints = value_told text spot.Registers (get_member (codes "registers") top) in
    let A : Faults = unknown_keys [] (codes "ops" ∷ codes "registers" ∷ codes "units" ∷ []) top in
    let B : Faults = faults_of_units (get_member (codes "units") top) in
    let C : Faults = faults_of_number (codes "registers") (codes "registers") 1 256 (get_member (codes "registers") top) in
    let D : Faults = faults_of_tables (names_of (get_member (codes "units") top)) (get_member (codes "ops") top) in
    same-append (a ++ b ++ c) (tables_told text (get_member (codes "units") top) (get_member (codes "ops") top)) (A ++ B ++ C) D
    (same-append (a ++ b) c (A ++ B) C
    (same-append a b A B (same-keys text None [] (top-key text) top) (λ none. same-units text (get_member (codes "units") top)))
    (λ none. same-registers text (get_member (codes "registers") top)))
    (λ none. same-tables text (get_member (codes "units") top) (names_of (get_member (codes "units") top))
    (knows-named (get_member (codes "units") top) (none-right A B (none-left (A ++ B) C none))) (get_member (codes "ops") top))

begins : (lints : Lints) (faults : Faults) (machine : MachineData) → Same lints faults → BeginsAs (answer faults machine) (faults_in lints)
begins [] [] machine h = refl
begins [] (f ∷ faults) machine h = cc
begins (l ∷ lints) [] machine h = cc
begins (l ∷ lints) (f ∷ faults) machine h = (faults_in lints, ap (λ (e : MachineFault). e ∷ faults_in lints) (same_Some _ _ h))

pub tree-begins : (text : List ℕ) (top : Members) → BeginsAs (answer (tree_faults top) (tree_machine top)) (faults_in (tree_told text top))
tree-begins text top = begins (tree_told text top) (tree_faults top) (tree_machine top) (same-tree text top)
