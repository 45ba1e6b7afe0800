-- The checks of a list and of a table, and those of units, alternatives and tables by them.
use Rattle.std.proofs.Common.{◌≡◌, ℕ, true, false, List, [], ◌∷◌, ◌++◌, length, map, Option, Some, None, codes, refl}
use Rattle.std.specs.List.{flat_map}
use Rattle.toml.specs.Data.{Data, string, integer, float, boolean, datetime, array, table, Items, Members, as_array, as_table, get_member}
use Rattle.reader_faults.specs.declared.machine.MachineFault.{MachineFault}
use Rattle.reader_faults.specs.declared.machine.MachineFault.TheVariants.{MissingKey, WrongType, Limit}
use Rattle.machine.specs.inner.Reads.{first_fault, faults_of_list, list_in, faults_of_table}
use Rattle.machine.specs.MachineText.{within, data_of, faults_in_turn, unit_faults, text_of, faults_of_units, names_of, row_faults, row_in, alternative_faults, rows_of, faults_of_alternatives, alternatives_of, path_of, path_in, unknown_keys, faults_of_number, number_in, table_faults, operation_of, entries_of, entry_faults, faults_of_tables, keys_in}
use Rattle.machine.proofs.checks.Faults.{array-at, table-at}

-- lists

module _ (path limit : List ℕ) (most : ℕ) where
  pub list-missing : first_fault (faults_of_list path limit most None) ≡ Some (MissingKey path)
  unfolding faults_of_list
  list-missing = refl

  pub list-wrong_type : (d : Data) → None ≡ as_array d → first_fault (faults_of_list path limit most (Some d)) ≡ Some (WrongType path)
  unfolding faults_of_list
  list-wrong_type (string s) h = refl
  list-wrong_type (integer y) h = refl
  list-wrong_type (float x) h = refl
  list-wrong_type (boolean b) h = refl
  list-wrong_type (datetime t) h = refl
  list-wrong_type (array es) h = cc
  list-wrong_type (table ns) h = refl

  module _ (d : Data) (values : Items) (is : Some values ≡ as_array d) where
    pub list-limit : within 1 most (length (data_of values)) ≡ false → first_fault (faults_of_list path limit most (Some d)) ≡ Some (Limit limit)
    unfolding faults_of_list
    list-limit h = rw (array-at d values is) (rw h)

    pub list-fine : within 1 most (length (data_of values)) ≡ true → faults_of_list path limit most (Some d) ≡ []
    unfolding faults_of_list
    list-fine h = rw (array-at d values is) (rw h)

pub list-is : (d : Data) (values : Items) → Some values ≡ as_array d → data_of values ≡ list_in (Some d)
list-is d values is = rw (array-at d values is)

pub units-of : (found : Option Data) → faults_of_units found ≡ faults_of_list (codes "units") (codes "units") 64 found ++ faults_in_turn unit_faults text_of [] (list_in found)
unfolding faults_of_units faults_of_list
units-of None = refl
units-of (Some (string s)) = refl
units-of (Some (integer y)) = refl
units-of (Some (float x)) = refl
units-of (Some (boolean b)) = refl
units-of (Some (datetime t)) = refl
units-of (Some (array es)) = refl
units-of (Some (table ns)) = refl

pub units-names : (found : Option Data) → map text_of (list_in found) ≡ names_of found
units-names None = refl
units-names (Some (string s)) = refl
units-names (Some (integer y)) = refl
units-names (Some (float x)) = refl
units-names (Some (boolean b)) = refl
units-names (Some (datetime t)) = refl
units-names (Some (array es)) = refl
units-names (Some (table ns)) = refl

module _ (path : List ℕ) (units : List (List ℕ)) where
  pub alternatives-of : (found : Option Data) → faults_of_alternatives path units found ≡ faults_of_list path (codes "alternatives") 8 found ++ flat_map (alternative_faults path units) (list_in found)
  unfolding faults_of_alternatives faults_of_list
  alternatives-of None = refl
  alternatives-of (Some (string s)) = refl
  alternatives-of (Some (integer y)) = refl
  alternatives-of (Some (float x)) = refl
  alternatives-of (Some (boolean b)) = refl
  alternatives-of (Some (datetime t)) = refl
  alternatives-of (Some (array es)) = refl
  alternatives-of (Some (table ns)) = refl

  pub alternative-of : (d : Data) → alternative_faults path units d ≡ faults_of_list path (codes "rows") 16 (Some d) ++ faults_in_turn (row_faults path units) (row_in units) [] (list_in (Some d))
  unfolding alternative_faults faults_of_list
  alternative-of (string s) = refl
  alternative-of (integer y) = refl
  alternative-of (float x) = refl
  alternative-of (boolean b) = refl
  alternative-of (datetime t) = refl
  alternative-of (array es) = refl
  alternative-of (table ns) = refl

pub alternatives-rows : (units : List (List ℕ)) (found : Option Data) → map (rows_of units) (list_in found) ≡ alternatives_of units found
alternatives-rows units None = refl
alternatives-rows units (Some (string s)) = refl
alternatives-rows units (Some (integer y)) = refl
alternatives-rows units (Some (float x)) = refl
alternatives-rows units (Some (boolean b)) = refl
alternatives-rows units (Some (datetime t)) = refl
alternatives-rows units (Some (array es)) = refl
alternatives-rows units (Some (table ns)) = refl

pub alternative-rows : (units : List (List ℕ)) (d : Data) → map (row_in units) (list_in (Some d)) ≡ rows_of units d
alternative-rows units (string s) = refl
alternative-rows units (integer y) = refl
alternative-rows units (float x) = refl
alternative-rows units (boolean b) = refl
alternative-rows units (datetime t) = refl
alternative-rows units (array es) = refl
alternative-rows units (table ns) = refl

-- tables

module _ (path : List ℕ) where
  pub table-missing : first_fault (faults_of_table path None) ≡ Some (MissingKey path)
  unfolding faults_of_table
  table-missing = refl

  pub table-wrong_type : (d : Data) → None ≡ as_table d → first_fault (faults_of_table path (Some d)) ≡ Some (WrongType path)
  unfolding faults_of_table
  table-wrong_type (string s) h = refl
  table-wrong_type (integer y) h = refl
  table-wrong_type (float x) h = refl
  table-wrong_type (boolean b) h = refl
  table-wrong_type (datetime t) h = refl
  table-wrong_type (array es) h = refl
  table-wrong_type (table ns) h = cc

  pub table-fine : (d : Data) (keys : Members) → Some keys ≡ as_table d → (faults_of_table path (Some d) ≡ []) × (keys ≡ keys_in (Some d))
  unfolding faults_of_table
  table-fine d keys is = rw (table-at d keys is) (refl, refl)

pub tables-of : (units : List (List ℕ)) (found : Option Data) → faults_of_tables units found ≡ faults_of_table (codes "ops") found ++ flat_map (entry_faults units) (entries_of (keys_in found))
unfolding faults_of_tables faults_of_table
tables-of units None = refl
tables-of units (Some (string s)) = refl
tables-of units (Some (integer y)) = refl
tables-of units (Some (float x)) = refl
tables-of units (Some (boolean b)) = refl
tables-of units (Some (datetime t)) = refl
tables-of units (Some (array es)) = refl
tables-of units (Some (table ns)) = refl

module _ (units : List (List ℕ)) (opcode : List ℕ) where
  pub table-fault : (d : Data) (e : MachineFault) → first_fault (faults_of_table (path_of opcode) (Some d)) ≡ Some e → first_fault (table_faults units opcode d) ≡ Some e
  unfolding faults_of_table table_faults
  table-fault (string s) e h = h
  table-fault (integer y) e h = h
  table-fault (float x) e h = h
  table-fault (boolean b) e h = h
  table-fault (datetime t) e h = h
  table-fault (array es) e h = h
  table-fault (table ns) e h = cc

  pub table-of : (d : Data) → faults_of_table (path_of opcode) (Some d) ≡ [] → table_faults units opcode d
      ≡ (unknown_keys (path_in opcode []) (codes "alts" ∷ codes "latency" ∷ []) (keys_in (Some d))
      ++ faults_of_number (path_in opcode (codes "latency")) (codes "latency") 1 64 (get_member (codes "latency") (keys_in (Some d))))
      ++ faults_of_alternatives (path_in opcode (codes "alts")) units (get_member (codes "alts") (keys_in (Some d)))
  unfolding faults_of_table table_faults
  table-of (string s) h = cc
  table-of (integer y) h = cc
  table-of (float x) h = cc
  table-of (boolean b) h = cc
  table-of (datetime t) h = cc
  table-of (array es) h = cc
  table-of (table ns) h = refl

pub table-is : (units : List (List ℕ)) (d : Data) → record { latency = number_in (get_member (codes "latency") (keys_in (Some d))); alternatives = alternatives_of units (get_member (codes "alts") (keys_in (Some d))) } ≡ operation_of units d
table-is units (string s) = refl
table-is units (integer y) = refl
table-is units (float x) = refl
table-is units (boolean b) = refl
table-is units (datetime t) = refl
table-is units (array es) = refl
table-is units (table ns) = refl
