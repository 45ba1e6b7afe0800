use Rattle.mrt.proofs.slots.Lanes.{HasLanes-masked}
use Rattle.mrt.proofs.words.lanes.with_words.Goals as goal

pub returns : goal.returns
returns c = HasLanes-masked c.args.met c.args.words c.args.mask c.fits-met.0 c.fits-words.0
