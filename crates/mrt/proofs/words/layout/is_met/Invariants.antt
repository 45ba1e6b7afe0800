use Rattle.std.proofs.Common.{◌≡◌, ℕ, ◌%◌, false, take}
use Rattle.mrt.specs.inner.Slots.{rows_in, meets_held}
use Rattle.mrt.proofs.words.layout.is_met.Given as goal

-- no slot so far is held
abbrev pub invariant-loop-slot : goal.invariant-loop-slot
invariant-loop-slot g l =
    (time : ℕ) → time % l.ii ≡ l.base → meets_held l.ii (g.L.Layout.tells l.width l.words) (rows_in (take l.slot-index l.slots)) time ≡ false
