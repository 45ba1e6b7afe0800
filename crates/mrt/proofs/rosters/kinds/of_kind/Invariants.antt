use Rattle.std.proofs.Common.{◌≡◌, ℕ, ◌<◌, []}
use Rattle.std.specs.List.{slice_index_or}
use Rattle.mrt.specs.inner.Rosters.{no_kind}
use Rattle.mrt.proofs.rosters.kinds.of_kind.Given as goal

-- no kind so far has these alternatives
abbrev pub invariant-loop-kind : goal.invariant-loop-kind
invariant-loop-kind l = (j : ℕ) → j < l.kind-index → slice_index_or l.operations (slice_index_or l.kinds j no_kind).operation [] ≡ l.alternatives → ⊥
