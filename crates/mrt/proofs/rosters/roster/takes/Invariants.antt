use Rattle.std.proofs.Common.{◌≡◌, ℕ, ◌%◌, false, take}
use Rattle.mrt.specs.inner.Slots.{rows_in}
use Rattle.mrt.specs.Taken.{takes}
use Rattle.mrt.proofs.rosters.roster.takes.Given as goal

-- no slot so far is this one
abbrev pub invariant-loop-slot : goal.invariant-loop-slot
invariant-loop-slot l =
    (time : ℕ) → time % l.ii ≡ l.base → takes l.ii (rows_in (take l.slot-index l.slots)) time l.unit l.residue ≡ false
