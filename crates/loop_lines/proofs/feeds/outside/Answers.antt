use Rattle.std.proofs.Common.{eqb, ltb, get_or, ap, ◌∙◌, w8}
use Rattle.std.specs.Int.{bit_at}
use Rattle.std.proofs.lemmas.Simd.{bitmask_splat}
use Rattle.loop_lines.proofs.Lanes.{bit_of_either, bit_of_lanes, mask_above}
use Rattle.loop_lines.proofs.feeds.outside.Goals as goal

pub returns : goal.returns
returns g c k l =
    let long = c.requires.long in
    let few = c.requires.few in
    let below = ap (λ m. eqb (bit_at m k) 1) (bitmask_splat w8 ltb c.args.bytes g.row.N c.args.first long few) ∙ bit_of_lanes (λ x. ltb x c.args.first) c.args.bytes g.row.N k long l in
    let above = ap (λ m. eqb (bit_at m k) 1) (mask_above c.args.bytes g.row.N c.args.last long few) ∙ bit_of_lanes (λ x. ltb c.args.last x) c.args.bytes g.row.N k long l in
    bit_of_either _ _ k (ltb (get_or c.args.bytes k 0) c.args.first) (ltb c.args.last (get_or c.args.bytes k 0)) below above
