use Rattle.registers.proofs.laws.least_is_lawful.Goals as goal
use Rattle.registers.proofs.allotted.Least.{least-is_lawful}

pub returns : goal.returns
returns c = least-is_lawful
