use Rattle.std.proofs.Common.{◌≡◌, ℕ, ◌+◌, ◌%◌, ◌<◌, true}
use Rattle.mrt.specs.inner.Slots.{rows_in, meets_held}
use Rattle.mrt.specs.inner.Masks.{is_held}
use Rattle.mrt.proofs.words.masks.MasksSearch.first_unmet.Given as goal

-- in each cycle so far some slot is held
abbrev pub invariant-loop-cycle : goal.invariant-loop-cycle
invariant-loop-cycle l =
    (time sooner : ℕ) → time % l.ii ≡ l.base → sooner < l.cycle → meets_held l.ii (is_held l.words) (rows_in l.slots) (time + sooner) ≡ true
