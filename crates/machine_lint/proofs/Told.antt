-- What is told of a text, by its tests.
use Rattle.std.proofs.Common.{◌≡◌, ℕ, ◌<◌, ◌≤◌, List, [], ◌∷◌, length, map, Some, None, codes, refl, ap, sym, ◌∙◌, arith, le-ltb, lt-ltb, eq-eqb}
use Rattle.std.proofs.lemmas.Bool.{ne_eqb}
use Rattle.std.proofs.lemmas.Option.{same_Some}
use Rattle.std.proofs.lemmas.Str.{utf8_valid_len-IsUtf8, utf8_valid_len-IsValidUpTo}
use Rattle.std.specs.Str.{IsUtf8, IsValidUpTo}
use Rattle.toml.specs.Data.{Members}
use Rattle.toml.specs.Parse.{parse_document}
use Rattle.reader_faults.specs.declared.machine.MachineFault.TheVariants.{NotUtf8, NotToml, Limit}
use Rattle.machine.specs.MachineText.{machine_of}
use Rattle.machine_lint.specs.Lints.{AreItsFaults, BeginsAs, Tells, told_of}
use Rattle.machine_lint.specs.Places.{lint_at, nowhere}
use Rattle.machine_lint.specs.Tree.{tree_told}
use Rattle.machine_lint.specs.declared.place.MachineLint.{MachineLint}
use Rattle.machine_lint.proofs.All.{tree-all}
use Rattle.machine_lint.proofs.Had.{tree-in}
use Rattle.machine_lint.proofs.FirstTree.{tree-begins}

pub record IsRight (text : List ℕ) (lints : List MachineLint) : Type 0 where
  pub exact : Tells text (told_of text) lints
  pub first : BeginsAs (machine_of text) (map (λ (lint : MachineLint). lint.fault) lints)
  pub faults : AreItsFaults text lints

module _ (text : List ℕ) (lints : List MachineLint) where
  long-told : 1048576 < length text → lints ≡ nowhere (Limit (codes "text")) ∷ [] → Tells text (told_of text) lints
  unfolding told_of
  long-told long are = rw (lt-ltb 1048576 (length text) long) are

  long-first : 1048576 < length text → lints ≡ nowhere (Limit (codes "text")) ∷ [] → BeginsAs (machine_of text) (map (λ (lint : MachineLint). lint.fault) lints)
  unfolding machine_of
  long-first long are = rw (lt-ltb 1048576 (length text) long) ([], ap (map (λ (lint : MachineLint). lint.fault)) are)

  pub right-long : 1048576 < length text → lints ≡ nowhere (Limit (codes "text")) ∷ [] → IsRight text lints
  right-long long are = record {
    exact = long-told long are;
    first = long-first long are;
    faults = λ top tree lint. let short : length text ≤ 1048576 = tree.short in absurd (omega arith);
  }

  module _ (short : length text ≤ 1048576) where
    module _ (n : ℕ) (upto : IsValidUpTo text n) (are : lints ≡ lint_at text NotUtf8 n ∷ []) where
      apart : n ≡ length text → ⊥
      apart e = let below = upto.short in omega arith

      not_utf8-told : Tells text (told_of text) lints
      unfolding told_of
      not_utf8-told = rw (le-ltb 1048576 (length text) short, utf8_valid_len-IsValidUpTo text n upto, ne_eqb n (length text) apart) are

      not_utf8-first : BeginsAs (machine_of text) (map (λ (lint : MachineLint). lint.fault) lints)
      unfolding machine_of
      not_utf8-first = rw (le-ltb 1048576 (length text) short, utf8_valid_len-IsValidUpTo text n upto, ne_eqb n (length text) apart) ([], ap (map (λ (lint : MachineLint). lint.fault)) are)

      pub right-not_utf8 : IsRight text lints
      right-not_utf8 = record {
        exact = not_utf8-told;
        first = not_utf8-first;
        faults = λ top tree lint. absurd (apart (sym (utf8_valid_len-IsValidUpTo text n upto) ∙ tree.utf8));
      }

    module _ (utf8 : IsUtf8 text) where
      module _ (offset : ℕ) (none : parse_document text ≡ None) (inside : offset ≤ length text) (are : lints ≡ lint_at text NotToml offset ∷ []) where
        not_toml-told : Tells text (told_of text) lints
        unfolding told_of
        not_toml-told = rw (le-ltb 1048576 (length text) short, utf8_valid_len-IsUtf8 text utf8, eq-eqb (length text) (length text) refl, none) (offset, inside, are)

        not_toml-first : BeginsAs (machine_of text) (map (λ (lint : MachineLint). lint.fault) lints)
        unfolding machine_of
        not_toml-first = rw (le-ltb 1048576 (length text) short, utf8_valid_len-IsUtf8 text utf8, eq-eqb (length text) (length text) refl, none) ([], ap (map (λ (lint : MachineLint). lint.fault)) are)

        pub right-not_toml : IsRight text lints
        right-not_toml = record {
          exact = not_toml-told;
          first = not_toml-first;
          faults = λ top tree lint. let e = sym none ∙ tree.parsed in cc;
        }

      module _ (top : Members) (is : parse_document text ≡ Some top) (are : lints ≡ tree_told text top) where
        tree-told : Tells text (told_of text) lints
        unfolding told_of
        tree-told = rw (le-ltb 1048576 (length text) short, utf8_valid_len-IsUtf8 text utf8, eq-eqb (length text) (length text) refl, is) are

        tree-first : BeginsAs (machine_of text) (map (λ (lint : MachineLint). lint.fault) lints)
        unfolding machine_of
        tree-first = rw (le-ltb 1048576 (length text) short, utf8_valid_len-IsUtf8 text utf8, eq-eqb (length text) (length text) refl, is, are) (tree-begins text top)

        tree-faults : AreItsFaults text lints
        tree-faults other tree lint =
            let same : top ≡ other = same_Some _ _ (sym is ∙ tree.parsed) in
            rw (← same, are) (tree-in text top lint, tree-all text top lint)

        pub right-tree : IsRight text lints
        right-tree = record { exact = tree-told; first = tree-first; faults = tree-faults }
