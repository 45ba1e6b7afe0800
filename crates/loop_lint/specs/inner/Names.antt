-- Names of loops, in a set, and how far a text has been gone through.
use Rattle.std.specs.Prelude.{◌≡◌, ℕ, ◌++◌, Bool, List, length}
use Rattle.std.specs.Borrow.{Bor}
use Rattle.std.specs.BTreeSet.{BTreeSet, contains_by}
use Rattle.std.specs.Cmp.Lexicographic.{slice_cmp}
use Rattle.std.specs.List.{list_any}
use Rattle.std.specs.Ordering.{nat_cmp}
use Rattle.machine_data.specs.Opcodes.{same_word}
use Rattle.loop_lint.specs.Lints.{TextLine, outside_lints}
use Rattle.loop_lint.specs.declared.fault.LintFault.{LintFault}

-- whether a set of names has a name
abbrev pub is_among : BTreeSet (Bor (List ℕ)) → List ℕ → Bool
is_among names q = contains_by (λ k. slice_cmp nat_cmp q k.now) names

-- a set has these names, of which there are `loops`
pub record AreNames (before : List (List ℕ)) (names : BTreeSet (Bor (List ℕ))) (loops : ℕ) : Type 0 where
  pub each : (q : List ℕ) → is_among names q ≡ list_any (same_word q) before
  pub count : length before ≡ loops

-- `all` are these faults and then those of the lines that are left
pub record GoesOn (names : BTreeSet (Bor (List ℕ))) (number loops : ℕ) (left : List TextLine) (faults all : List LintFault) : Type 0 where
  pub more : List (List ℕ)
  pub are : AreNames more names loops
  pub same : all ≡ faults ++ outside_lints number more left
