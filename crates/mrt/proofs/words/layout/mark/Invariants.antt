use Rattle.std.proofs.Common.{◌≡◌, ℕ, ◌%◌, ◌<◌, cond, take}
use Rattle.mrt.specs.inner.Slots.{rows_in}
use Rattle.mrt.specs.Taken.{takes}
use Rattle.mrt.proofs.words.layout.mark.Given as goal

-- the bits of the slots so far are written, and no other
abbrev pub invariant-loop-slot : goal.invariant-loop-slot
invariant-loop-slot g l = record {
  laid : g.L.Layout.is_laid l.ii l.width l.words;
  marked : (time unit residue : ℕ) → time % l.ii ≡ l.base → unit < 64 → residue < l.ii
      → g.L.Layout.tells l.width l.words unit residue
      ≡ cond (takes l.ii (rows_in (take l.slot-index l.slots)) time unit residue) l.held (g.L.Layout.tells l.width l.initial.words unit residue);
}
