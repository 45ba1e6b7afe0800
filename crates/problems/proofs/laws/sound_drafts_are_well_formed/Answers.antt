use Rattle.problems.proofs.faults.Sound.{sound-well_formed}
use Rattle.problems.proofs.laws.sound_drafts_are_well_formed.Goals as goal

pub returns : goal.returns
returns c = sound-well_formed
