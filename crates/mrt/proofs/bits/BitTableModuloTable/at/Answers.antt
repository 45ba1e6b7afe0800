use Rattle.std.proofs.Common.{length, refl, replicate}
use Rattle.mrt.proofs.slots.Masking.{IsBitTable-new}
use Rattle.mrt.proofs.bits.BitTableModuloTable.at.Goals as goal

pub invariant_of-result : goal.invariant_of-result
invariant_of-result g c =
    let operations = c.self.inside.roster.operations in
    let sizes = c.sizes-width.result in
    rw (c.reset.ensures, c.in_ok-refill.ensures.ok)
    (IsBitTable-new c.args.ii (length operations) operations (g.L.Layout.tells sizes.0 (replicate sizes.1 0)) refl c.sizes-width.ensures.clear, c.sizes-width.ensures.laid)
