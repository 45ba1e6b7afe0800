use Rattle.told_intervals.proofs.Evidenced.{tried-is_given}
use Rattle.told_intervals.proofs.laws.tried_is_given.Goals as goal

pub returns : goal.returns
returns c = tried-is_given
