-- Names with their numbers: the first one of each bucket, and a map of the others.
use Rattle.std.specs.Prelude.{◌≡◌, ◌≢◌, ◌⊎◌, ℕ, ◌+◌, ◌%◌, ◌<◌, ◌≤◌, List, [], length, slice_index, Option, Some}
use Rattle.std.specs.Borrow.{Bor}
use Rattle.std.specs.BTreeMap.{BTreeMap, get_by}
use Rattle.std.specs.Cmp.Lexicographic.{slice_cmp}
use Rattle.std.specs.Hash.FoldHasher as folding
use Rattle.std.specs.List.{slice_index_or, AllPairs}
use Rattle.std.specs.Ordering.{nat_cmp}
use Rattle.problem_tables.specs.declared.names.TheConstants.{BUCKETS}

-- the bucket of a name
unfoldable pub bucket_of : List ℕ → ℕ
bucket_of name = folding.finish (folding.write folding.initial name) % BUCKETS

-- what a map has at a name
abbrev pub number_in : BTreeMap (Bor (List ℕ)) ℕ → List ℕ → Option ℕ
number_in numbers q = get_by (λ k. slice_cmp nat_cmp q k.now) numbers

-- the name with this number
abbrev pub name_at : List (List ℕ) → ℕ → List ℕ
name_at names k = slice_index_or names k []

-- each name is the first one of its bucket or one of the others
pub record AreNumbered (names : List (List ℕ)) (firsts : List ℕ) (others : List ℕ → Option ℕ) : Type 0 where
  pub distinct : AllPairs (λ (a b : List ℕ). a ≢ b) names
  pub within : (b : ℕ) → slice_index firsts b ≤ length names
  pub found : (k : ℕ) → k < length names → (slice_index firsts (bucket_of (name_at names k)) ≡ k + 1) ⊎ (others (name_at names k) ≡ Some k)
  pub known : (q : List ℕ) (k : ℕ) → others q ≡ Some k → (k < length names) × (name_at names k ≡ q)
