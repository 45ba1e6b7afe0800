use Rattle.registers.proofs.laws.least_or_none.Goals as goal
use Rattle.registers.proofs.allotted.Least.{least-or_none}

pub returns : goal.returns
returns c = least-or_none
