use Rattle.explain.proofs.Tried.{reasons-of}
use Rattle.explain.proofs.intervals.tries.push_failures.Goals as goal

pub whys_of-requires : goal.whys_of-requires
whys_of-requires c = rw c.as_slice.ensures.value (record { are = reasons-of c.args.prepared.now _ c.args.told.now.reasons.items c.requires.told.are_reasons })
