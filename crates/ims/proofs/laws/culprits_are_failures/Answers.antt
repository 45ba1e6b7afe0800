use Rattle.ims.proofs.answers.Promised.{culprits-are_failures}
use Rattle.ims.proofs.laws.culprits_are_failures.Goals as goal

pub returns : goal.returns
returns c = culprits-are_failures
