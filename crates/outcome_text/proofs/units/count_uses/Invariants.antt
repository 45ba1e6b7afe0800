use Rattle.std.proofs.Common.{ℕ, ◌*◌, ◌<◌, ◌≤◌, slice_index, take}
use Rattle.unit_bound.specs.Units.{chosen_rows}
use Rattle.outcome_text.specs.inner.Counts.{AreUses}
use Rattle.outcome_text.proofs.units.count_uses.Given as goal

abbrev pub invariant-loop-number : goal.invariant-loop-number
invariant-loop-number l = record {
  uses : AreUses (chosen_rows (take l.number l.operations) l.choices) l.counts;
  few : (unit : ℕ) → unit < 256 → slice_index l.counts unit ≤ 16 * l.number;
}
