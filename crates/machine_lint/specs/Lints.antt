-- The faults of a machine text, with their places.
use Rattle.std.specs.Prelude.{◌≡◌, ◌↔◌, ℕ, ◌≤◌, ◌==◌, Contains, nat_lt, not, if◌then◌else◌, codes, List, [], ◌∷◌, length, Option, Some, None, Result, Ok, Err}
use Rattle.std.specs.Str.Lossy.{utf8_valid_len}
use Rattle.toml.specs.Data.{Members}
use Rattle.toml.specs.Parse.{parse_document}
use Rattle.machine_data.specs.Machines.{MachineData}
use Rattle.reader_faults.specs.declared.machine.MachineFault.{MachineFault}
use Rattle.reader_faults.specs.declared.machine.MachineFault.TheVariants.{Limit, NotToml, NotUtf8}
use Rattle.machine_data.specs.declared.limits.TheConstants.{MAX_TEXT}
use Rattle.machine_lint.specs.HasFault.{HasMachineFault}
use Rattle.machine_lint.specs.Places.{lint_at, nowhere}
use Rattle.machine_lint.specs.Tree.{tree_told}
use Rattle.machine_lint.specs.declared.place.MachineLint.{MachineLint}

-- what is told of a text: just these faults, or one fault at some place in the text
pub data Told : Type 0 where
  Just : List MachineLint → Told
  Somewhere : MachineFault → Told

-- of the tree of a text, where the text is TOML
abbrev pub told_tree : List ℕ → Option Members → Told
told_tree text None = Somewhere NotToml
told_tree text (Some top) = Just (tree_told text top)

-- of a text
unfoldable pub told_of : List ℕ → Told
told_of text =
    if nat_lt 1048576 (length text) then Just (nowhere (Limit (codes "text")) ∷ [])
    else if not (utf8_valid_len text == length text) then Just (lint_at text NotUtf8 (utf8_valid_len text) ∷ [])
    else told_tree text (parse_document text)

-- a call that answers so tells this of a text
abbrev pub Tells : List ℕ → Told → List MachineLint → Type 0
Tells text (Just faults) lints = lints ≡ faults
Tells text (Somewhere fault) lints = (offset : ℕ) × (offset ≤ length text) × (lints ≡ lint_at text fault offset ∷ [])

-- there are none where the text means a machine; else the first is the fault that its meaning is
abbrev pub BeginsAs : Result MachineData MachineFault → List MachineFault → Type 0
BeginsAs (Ok machine) faults = faults ≡ []
BeginsAs (Err fault) faults = (others : List MachineFault) × (faults ≡ fault ∷ others)

-- the text is within its limit and TOML, and this is its tree
pub record IsTree (text : List ℕ) (top : Members) : Type 0 where
  pub short : length text ≤ MAX_TEXT
  pub utf8 : utf8_valid_len text ≡ length text
  pub parsed : parse_document text ≡ Some top

-- just the faults that the tree of the text has, if it has a tree
abbrev pub AreItsFaults : List ℕ → List MachineLint → Type 0
AreItsFaults text lints = (top : Members) → IsTree text top → (lint : MachineLint) → Contains lints lint ↔ HasMachineFault text top lint
