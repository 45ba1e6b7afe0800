use Rattle.unit_sets.proofs.Listed.{length-units}
use Rattle.unit_sets.proofs.units.size.Goals as goal

pub returns-clause-number : goal.returns-clause-number
returns-clause-number c = length-units c.args.set c.ranges.set.fits
