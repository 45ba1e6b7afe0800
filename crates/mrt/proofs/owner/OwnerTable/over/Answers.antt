use Rattle.std.proofs.Common.{◌≡◌, ◌*◌, ◌≤◌, length, replicate, arith}
use Rattle.mrt.specs.declared.owner.TheConstants.{FREE}
use Rattle.mrt.proofs.slots.Owning.{IsOwnerTable-of}
use Rattle.mrt.proofs.owner.OwnerTable.over.Goals as goal

pub invariant_of-result : goal.invariant_of-result
invariant_of-result c =
    let t = c.args.roster in
    let free : c.in_ok-owners.owners.items ≡ replicate (c.ii.result * c.units-units.result) FREE = c.in_ok-owners.ensures.items_if_clones_equal (λ y h. h) in
    let short : length t.operations ≤ FREE = omega (arith, c.requires.short) in
    rw (free, c.ii.ensures.value) (IsOwnerTable-of t c.units-units.result c.requires.empty short c.units-units.ensures.few c.units-units.ensures.covered)
