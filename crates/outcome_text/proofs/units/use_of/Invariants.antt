use Rattle.std.proofs.Common.{◌≡◌, ◌*◌, ◌≤◌, take}
use Rattle.unit_bound.specs.Units.{chosen_rows, use_of}
use Rattle.outcome_text.proofs.units.use_of.Given as goal

abbrev pub invariant-loop-number : goal.invariant-loop-number
invariant-loop-number l = record {
  uses : l.uses ≡ use_of (chosen_rows (take l.number l.operations) l.choices) l.unit;
  few : l.uses ≤ 16 * l.number;
}
