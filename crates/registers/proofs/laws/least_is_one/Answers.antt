use Rattle.registers.proofs.laws.least_is_one.Goals as goal
use Rattle.registers.proofs.allotted.Least.{least-is_one}

pub returns : goal.returns
returns c = least-is_one
