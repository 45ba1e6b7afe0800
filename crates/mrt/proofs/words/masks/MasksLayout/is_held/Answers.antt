use Rattle.mrt.proofs.slots.Masking.{test_is}
use Rattle.mrt.proofs.words.masks.MasksLayout.is_held.Goals as goal

pub returns : goal.returns
returns c = test_is _ _ c.args.slot.now.row.unit c.requires.slot.mask
