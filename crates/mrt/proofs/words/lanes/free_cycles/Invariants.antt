use Rattle.std.proofs.Common.{◌≡◌, ℕ, ◌+◌, ◌%◌, ◌<◌, not, eqb, get_or, take}
use Rattle.mrt.specs.inner.Slots.{rows_in, meets_held}
use Rattle.mrt.specs.inner.Masks.{is_held}
use Rattle.mrt.proofs.words.lanes.free_cycles.Given as goal

-- a lane has no bit where no slot so far is held in its cycle
abbrev pub invariant-loop-slot : goal.invariant-loop-slot
invariant-loop-slot l =
    (time k : ℕ) → time % l.ii ≡ l.base → k < 8
    → eqb (get_or l.met k 0) 0 ≡ not (meets_held l.ii (is_held l.busy) (rows_in (take l.slot-index l.slots)) (time + k))
