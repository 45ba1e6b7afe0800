use Rattle.unit_bound.specs.Units.{chosen_rows}
use Rattle.circuits.proofs.Farthest.{zeros}
use Rattle.outcome_text.proofs.units.units_with.Goals as goal

pub count_uses-requires-clause-none : goal.count_uses-requires-clause-none
count_uses-requires-clause-none c = zeros 256

pub returns : goal.returns
returns c = c.in_ok-full.ensures (chosen_rows c.args.operations.now c.args.choices.now) c.count_uses.ensures
