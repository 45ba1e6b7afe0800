use Rattle.std.proofs.Common.{◌≡◌, ℕ, ◌+◌, ◌*◌, ◌%◌, ◌<◌, true}
use Rattle.mrt.specs.inner.Slots.{rows_in, meets_held}
use Rattle.mrt.specs.inner.Masks.{is_held}
use Rattle.mrt.proofs.words.masks.first_of_eights.Given as goal

-- in each cycle of the eights so far some slot is held
abbrev pub invariant-loop-eight : goal.invariant-loop-eight
invariant-loop-eight l =
    (time sooner : ℕ) → time % l.ii ≡ l.base → sooner < 8 * l.eight → meets_held l.ii (is_held l.words) (rows_in l.slots) (time + sooner) ≡ true
