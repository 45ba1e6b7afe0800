use Rattle.std.proofs.Common.{eqb, ltb, get_or, ap, ◌∙◌, arith, w8}
use Rattle.std.specs.Int.{bit_at}
use Rattle.std.proofs.lemmas.Simd.{bitmask_splat}
use Rattle.loop_lines.proofs.Lanes.{bit_of_either}
use Rattle.problem_lines.proofs.EightBytes.{bit_of_lanes, mask_above}
use Rattle.problem_lines.proofs.eights.other_bytes.Goals as goal

pub returns : goal.returns
returns c k l =
    let long = c.fits-bytes.0 in
    let below = ap (λ m. eqb (bit_at m k) 1) (bitmask_splat w8 ltb c.args.bytes 8 36 long (omega arith)) ∙ bit_of_lanes (λ x. ltb x 36) c.args.bytes k long l in
    let above = ap (λ m. eqb (bit_at m k) 1) (mask_above c.args.bytes 126 long) ∙ bit_of_lanes (λ x. ltb 126 x) c.args.bytes k long l in
    bit_of_either _ _ k (ltb (get_or c.args.bytes k 0) 36) (ltb 126 (get_or c.args.bytes k 0)) below above
