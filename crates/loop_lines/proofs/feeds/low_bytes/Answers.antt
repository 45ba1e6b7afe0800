use Rattle.std.proofs.Common.{eqb, leb, ap, ◌∙◌, arith, w8}
use Rattle.std.specs.Int.{bit_at}
use Rattle.std.proofs.lemmas.Simd.{bitmask_splat}
use Rattle.loop_lines.proofs.Lanes.{bit_of_lanes}
use Rattle.loop_lines.proofs.feeds.low_bytes.Goals as goal

pub returns : goal.returns
returns c k l =
    ap (λ m. eqb (bit_at m k) 1) (bitmask_splat w8 leb c.args.bytes 16 35 c.fits-bytes.0 (omega arith)) ∙ bit_of_lanes (λ x. leb x 35) c.args.bytes 16 k c.fits-bytes.0 l
