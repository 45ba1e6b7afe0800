use Rattle.problems.proofs.keeping.Sizes.{reads-forward}
use Rattle.problems.proofs.laws.reads_go_forward.Goals as goal

pub returns : goal.returns
returns c = reads-forward
