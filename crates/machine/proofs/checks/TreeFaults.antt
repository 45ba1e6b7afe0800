-- The checks of the tree.
use Rattle.std.proofs.Common.{◌≡◌, [], ◌∷◌, ◌++◌, codes, refl}
use Rattle.toml.specs.Data.{Members, get_member}
use Rattle.machine.specs.MachineText.{unknown_keys, faults_of_number, number_in, faults_of_units, names_of, faults_of_tables, tables_of, tree_faults, tree_machine}

module _ (top : Members) where
  pub tree-of : tree_faults top
      ≡ ((unknown_keys [] (codes "ops" ∷ codes "registers" ∷ codes "units" ∷ []) top
      ++ faults_of_units (get_member (codes "units") top))
      ++ faults_of_number (codes "registers") (codes "registers") 1 256 (get_member (codes "registers") top))
      ++ faults_of_tables (names_of (get_member (codes "units") top)) (get_member (codes "ops") top)
  unfolding tree_faults
  tree-of = refl

  pub tree-is : record { units = names_of (get_member (codes "units") top); registers = number_in (get_member (codes "registers") top); tables = tables_of (names_of (get_member (codes "units") top)) (get_member (codes "ops") top) } ≡ tree_machine top
  unfolding tree_machine
  tree-is = refl
