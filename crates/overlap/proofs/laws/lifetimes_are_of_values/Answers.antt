use Rattle.overlap.proofs.laws.lifetimes_are_of_values.Goals as goal
use Rattle.overlap.proofs.in_registers.OfValues.{lifetimes-are_of_values}

pub returns : goal.returns
returns c = lifetimes-are_of_values
