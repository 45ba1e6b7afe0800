use Rattle.overlap.proofs.laws.writes_are_of_values.Goals as goal
use Rattle.overlap.proofs.in_flight.Made.{writes-are_of_values}

pub returns : goal.returns
returns c = writes-are_of_values
