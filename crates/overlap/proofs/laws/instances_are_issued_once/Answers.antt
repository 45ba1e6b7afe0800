use Rattle.overlap.proofs.laws.instances_are_issued_once.Goals as goal
use Rattle.overlap.proofs.Passes.{instances-are_issued_once}

pub returns : goal.returns
returns c = instances-are_issued_once
