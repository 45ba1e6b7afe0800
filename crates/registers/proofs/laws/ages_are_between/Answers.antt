use Rattle.registers.proofs.laws.ages_are_between.Goals as goal
use Rattle.registers.proofs.lives.Ages.{ages-are_between}

pub returns : goal.returns
returns c = ages-are_between
