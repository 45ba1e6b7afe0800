use Rattle.std.proofs.Common.{ℕ, ◌≤◌, length, drop}
use Rattle.std.specs.List.{All}
use Rattle.mrt.specs.inner.Marks.{Tells}
use Rattle.mrt.specs.inner.Slots.{IsSlot, rows_in, HasUnits}
use Rattle.mrt.proofs.slots.Gaps.{collide}
use Rattle.mrt.proofs.rosters.marks.marks_of.Given as goal

-- the bits tell of the slots from this one on
abbrev pub invariant-loop-i : goal.invariant-loop-i
invariant-loop-i l = record {
  within : l.i ≤ length l.slots;
  units : (ii : ℕ) → All (IsSlot ii) l.slots → HasUnits l.units (rows_in (drop l.i l.slots));
  gaps : (ii : ℕ) → All (IsSlot ii) l.slots → Tells l.gaps (collide (drop l.i l.slots));
}
