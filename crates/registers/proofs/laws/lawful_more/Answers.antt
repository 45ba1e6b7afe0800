use Rattle.registers.proofs.laws.lawful_more.Goals as goal
use Rattle.registers.proofs.allotted.More.{lawful-more}

pub returns : goal.returns
returns c = lawful-more
