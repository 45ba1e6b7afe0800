use Rattle.std.proofs.Common.{◌≤◌, vec_len}
use Rattle.variants.specs.inner.Tries.{AreTries, with_registers}
use Rattle.variants.proofs.Deciding.{HaveRisen}
use Rattle.variants.proofs.search.intervals.interval_with.Given as goal

abbrev pub invariant-loop-above : goal.invariant-loop-above
invariant-loop-above l = record {
  are : AreTries l.prepared l.tries.items;
  next : l.above ≤ vec_len l.tries;
  risen : HaveRisen (with_registers l.registers l.prepared) l.above;
}
