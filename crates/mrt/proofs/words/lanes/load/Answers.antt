use Rattle.std.proofs.lemmas.Simd.{length-chunk, get_or-chunk}
use Rattle.mrt.proofs.words.lanes.load.Goals as goal

pub returns : goal.returns
returns c = record { long = length-chunk c.args.at 8 c.args.words.now c.requires; each = λ k l. get_or-chunk c.args.at 8 c.args.words.now k 0 l }
