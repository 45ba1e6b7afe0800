use Rattle.std.proofs.Common.{◌≡◌, ◌<◌, ℕ, max, length, drop}
use Rattle.std.specs.Prelude.{slice_index, ◌==◌, if◌then◌else◌}
use Rattle.std.specs.List.{list_any}
use Rattle.rotating.proofs.values.uses.raise_outs.Given as goal

abbrev pub invariant-loop-k : goal.invariant-loop-k
invariant-loop-k l = (length l.table ≡ 256) × ((v : ℕ) → v < 256
    → max (slice_index l.table v) (if list_any (λ o. o == v) (drop l.k l.outs) then l.least else 0) ≡ max (slice_index l.initial.table v) (if list_any (λ o. o == v) l.outs then l.least else 0))
