use Rattle.registers.proofs.laws.forbids_between.Goals as goal
use Rattle.registers.proofs.allotted.Shifts.{forbids-between}

pub returns : goal.returns
returns c = forbids-between
