use Rattle.std.proofs.Common.{eqb, ap, ◌∙◌, arith, w64}
use Rattle.std.specs.Int.{bit_at}
use Rattle.std.proofs.lemmas.Simd.{bitmask_splat}
use Rattle.mrt.proofs.slots.Lanes.{bit_of_zero_lanes, no_bit_past}
use Rattle.mrt.proofs.words.lanes.zero_lanes.Goals as goal

pub returns-clause-each : goal.returns-clause-each
returns-clause-each c k l =
    ap (λ m. eqb (bit_at m k) 1) (bitmask_splat w64 eqb c.args.met 8 0 c.fits-met.0 (omega arith)) ∙ bit_of_zero_lanes c.args.met k c.fits-met.0 l

pub returns-clause-rest : goal.returns-clause-rest
returns-clause-rest c k past = ap (λ m. bit_at m k) (bitmask_splat w64 eqb c.args.met 8 0 c.fits-met.0 (omega arith)) ∙ no_bit_past c.args.met k c.fits-met.0 past
