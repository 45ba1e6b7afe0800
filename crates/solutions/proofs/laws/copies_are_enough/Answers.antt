use Rattle.solutions.proofs.Naming.{copies-are_enough}
use Rattle.solutions.proofs.laws.copies_are_enough.Goals as goal

pub returns : goal.returns
returns c = copies-are_enough
