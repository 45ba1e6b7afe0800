use Rattle.overlap.proofs.laws.overlap_is_sequence.Goals as goal
use Rattle.overlap.proofs.End.{overlap-is_sequence}

pub returns : goal.returns
returns c = overlap-is_sequence
