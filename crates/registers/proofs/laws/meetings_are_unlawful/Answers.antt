use Rattle.registers.proofs.laws.meetings_are_unlawful.Goals as goal
use Rattle.registers.proofs.allotted.First.{meetings-are_unlawful}

pub returns : goal.returns
returns c = meetings-are_unlawful
