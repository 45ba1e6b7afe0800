use Rattle.std.proofs.Common.{◌≡◌, ℕ, ◌%◌, ◌<◌, cond, take}
use Rattle.mrt.specs.inner.Slots.{rows_in}
use Rattle.mrt.specs.Taken.{takes}
use Rattle.mrt.specs.inner.OwnerTables.{owner_at}
use Rattle.mrt.proofs.owner.mark.Given as goal

-- the slots so far are given to the owner, and no other
abbrev pub invariant-loop-slot : goal.invariant-loop-slot
invariant-loop-slot l =
    (time unit residue : ℕ) → time % l.ii ≡ l.base → unit < l.units → residue < l.ii
    → owner_at l.units l.owners unit residue ≡ cond (takes l.ii (rows_in (take l.slot-index l.slots)) time unit residue) l.owner (owner_at l.units l.initial.owners unit residue)
