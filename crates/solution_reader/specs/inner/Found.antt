-- What the resolution of names keeps.
use Rattle.std.specs.Prelude.{ℕ, Bool, List}
use Rattle.std.specs.Borrow.{Bor}
use Rattle.std.specs.BTreeSet.{BTreeSet, contains_by}
use Rattle.std.specs.Cmp.Lexicographic.{slice_cmp}
use Rattle.std.specs.Ordering.{nat_cmp}

-- whether a set of names has a name
abbrev pub is_among : BTreeSet (Bor (List ℕ)) → List ℕ → Bool
is_among names q = contains_by (λ k. slice_cmp nat_cmp q k.now) names
