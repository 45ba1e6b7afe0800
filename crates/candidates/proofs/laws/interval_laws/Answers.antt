use Rattle.candidates.proofs.OneOutcomes.{one_outcome}
use Rattle.candidates.proofs.laws.interval_laws.Goals as goal

pub returns : goal.returns
returns c = record { one = one_outcome }
