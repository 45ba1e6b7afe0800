-- The names of a block that stand in chains, one for each value of a hash. The names of a chain are linked, each to the one before.
use Rattle.std.specs.Prelude.{◌≡◌, ℕ, ◌-◌, ◌%◌, ◌<◌, ◌≤◌, if◌then◌else◌, List, [], ◌∷◌, length, Option, Some, None, slice_index_or}
use Rattle.std.specs.Option.{option_or}
use Rattle.std.specs.Hash.FoldHasher as folding
use Rattle.machine_data.specs.Opcodes.{same_word}
use Rattle.loop_reader.specs.declared.names.index.Declared.{Declared}
use Rattle.loop_reader.specs.declared.names.index.Declared.TheVariants as variants
use Rattle.loop_reader.specs.declared.names.chains.Link.{Link}

-- what the latest of some names that is this one stands for
abbrev pub chained_as : List Link → List ℕ → Option Declared
chained_as [] q = None
chained_as (link ∷ rest) q = option_or (chained_as rest q) (if same_word q link.name.now then Some link.what else None)

-- the chain of a name
unfoldable pub chain_of : List ℕ → ℕ
chain_of name = folding.finish (folding.write folding.initial name) % 512

-- what stands past the last name
abbrev pub nothing : Link
nothing = record { name = record { ref_ptr = (0, 0); now = [] }; what = variants.Array 0; chain = 0; before = 0; depth = 0 }

-- the name of this number
abbrev pub name_at : List Link → ℕ → List ℕ
name_at links i = (slice_index_or links i nothing).name.now

-- of the names below a bound the latest in a chain has the number one below this, and for 0 there is none
pub record IsLatest (links : List Link) (bound chain at : ℕ) : Type 0 where
  pub within : at ≤ bound
  pub here : 0 < at → chain_of (name_at links (at - 1)) ≡ chain
  pub others : (j : ℕ) → at ≤ j → j < bound → chain_of (name_at links j) ≡ chain → ⊥

-- each name is linked to the latest before it in its chain
abbrev pub IsLinked : List Link → Type 0
IsLinked links = (i : ℕ) → i < length links → IsLatest links i (chain_of (name_at links i)) (slice_index_or links i nothing).before

-- and the latest names of the chains are these; each name has the number of its chain, and none is there twice
pub record AreChains (links : List Link) (latest : List ℕ) : Type 0 where
  pub size : length latest ≡ 512
  pub latest_is : (chain : ℕ) → chain < 512 → IsLatest links (length links) chain (slice_index_or latest chain 0)
  pub linked : IsLinked links
  pub placed : (i : ℕ) → i < length links → (slice_index_or links i nothing).chain ≡ chain_of (name_at links i)
  pub distinct : (i j : ℕ) → i < j → j < length links → name_at links i ≡ name_at links j → ⊥
