-- Names with a map of their numbers.
use Rattle.std.specs.Prelude.{◌≡◌, ℕ, List, Option}
use Rattle.std.specs.Borrow.{Bor}
use Rattle.std.specs.BTreeMap.{BTreeMap, get_by}
use Rattle.std.specs.Cmp.Lexicographic.{slice_cmp}
use Rattle.std.specs.Ordering.{nat_cmp}
use Rattle.solution_reader.specs.Data.{number_of_name}

-- what the map has at a name
abbrev pub known_at : BTreeMap (Bor (List ℕ)) ℕ → List ℕ → Option ℕ
known_at numbers q = get_by (λ k. slice_cmp nat_cmp q k.now) numbers

-- the map has each name's number
pub record AreNumbers (names : List (List ℕ)) (numbers : BTreeMap (Bor (List ℕ)) ℕ) : Type 0 where
  pub each : (q : List ℕ) → known_at numbers q ≡ number_of_name names q
