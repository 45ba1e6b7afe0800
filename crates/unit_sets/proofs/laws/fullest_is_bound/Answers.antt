use Rattle.unit_sets.proofs.Bounds as bounds
use Rattle.unit_sets.proofs.laws.fullest_is_bound.Goals as goal

pub returns : goal.returns
returns c = record { greatest = bounds.greatest; bound = bounds.bound }
