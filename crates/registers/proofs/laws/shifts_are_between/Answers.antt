use Rattle.registers.proofs.laws.shifts_are_between.Goals as goal
use Rattle.registers.proofs.allotted.Shifts.{shifts-are_between}

pub returns : goal.returns
returns c = shifts-are_between
