use Rattle.std.proofs.Common.{take}
use Rattle.mrt.specs.inner.Marks.{Tells}
use Rattle.mrt.proofs.slots.Gaps.{meets}
use Rattle.mrt.proofs.rosters.marks.gaps_between.Given as goal

-- the gaps tell of the others before this one
abbrev pub invariant-loop-other : goal.invariant-loop-other
invariant-loop-other l = Tells l.gaps (meets l.slot.row (take l.other-index l.others))
