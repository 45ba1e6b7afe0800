use Rattle.std.proofs.Common.{◌≡◌, ℕ, ◌%◌, false, take}
use Rattle.mrt.specs.inner.Slots.{rows_in, meets_held}
use Rattle.mrt.specs.inner.OwnerTables.{is_owned}
use Rattle.mrt.proofs.owner.is_met.Given as goal

-- no slot so far has an owner
abbrev pub invariant-loop-slot : goal.invariant-loop-slot
invariant-loop-slot l =
    (time : ℕ) → time % l.ii ≡ l.base → meets_held l.ii (is_owned l.units l.owners) (rows_in (take l.slot-index l.slots)) time ≡ false
