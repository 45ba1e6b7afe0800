use Rattle.std.proofs.Common.{◌≤◌, length, refl, arith}
use Rattle.mrt.specs.declared.owner.TheConstants.{FREE}
use Rattle.mrt.proofs.slots.Owning.{IsOwnerTable-new}
use Rattle.mrt.proofs.owner.OwnerTableModuloTable.at.Goals as goal

pub invariant_of-result : goal.invariant_of-result
invariant_of-result c =
    let i = c.self.invariant in
    let operations = c.self.inside.roster.operations in
    let short : length operations ≤ FREE = omega (arith, i.whole, i.short) in
    rw (c.reset.ensures, c.in_ok-refill.ensures.ok) (IsOwnerTable-new c.args.ii c.self.inside.units (length operations) operations refl short i.few i.covered)
