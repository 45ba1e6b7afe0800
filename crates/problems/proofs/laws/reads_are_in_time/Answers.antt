use Rattle.problems.proofs.keeping.InTime.{reads-in_time}
use Rattle.problems.proofs.laws.reads_are_in_time.Goals as goal

pub returns : goal.returns
returns c = reads-in_time
