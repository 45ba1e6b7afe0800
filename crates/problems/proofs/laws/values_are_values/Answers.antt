use Rattle.problems.proofs.keeping.Sizes.{values-values}
use Rattle.problems.proofs.laws.values_are_values.Goals as goal

pub returns : goal.returns
returns c = values-values
