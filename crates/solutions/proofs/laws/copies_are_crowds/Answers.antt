use Rattle.solutions.proofs.Naming.{copies-are_crowds}
use Rattle.solutions.proofs.laws.copies_are_crowds.Goals as goal

pub returns : goal.returns
returns c = copies-are_crowds
