use Rattle.mrt.proofs.slots.Masking.{with_set, with_cleared}
use Rattle.mrt.proofs.words.times.with_bit.Goals as goal

pub returns-then-held : goal.returns-then-held
returns-then-held c own unit m o u = rw c.if-held.true (with_set c.args.word c.args.mask own unit m)

pub returns-else-held : goal.returns-else-held
returns-else-held c own unit m o u = rw c.if-held.false (with_cleared c.args.word c.args.mask own unit m o u c.ranges.mask.fits)
