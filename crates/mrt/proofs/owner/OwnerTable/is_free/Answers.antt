use Rattle.std.proofs.Common.{◌≡◌, ◌%◌, ◌<◌, length}
use Rattle.mrt.specs.Placements.{alternatives_of}
use Rattle.mrt.specs.inner.OwnerTables.{is_owned}
use Rattle.mrt.proofs.placements.Choosing.{covered_slots}
use Rattle.mrt.proofs.slots.Owning.{Occupies-from_owners}
use Rattle.mrt.proofs.searching.Taking.{free_from_unmet}
use Rattle.mrt.proofs.owner.OwnerTable.is_free.Goals as goal

pub is_met-requires-clause-covered : goal.is_met-requires-clause-covered
is_met-requires-clause-covered c = covered_slots c.self.inside.units _ _ c.in-Some.ensures.rows (c.self.invariant.covered c.args.op c.args.alternative)

pub returns : goal.returns
returns c time base =
    let t = c.self.inside.roster in
    let i = c.self.invariant in
    let b : time % t.interval ≡ c.args.base = rw c.self.view_is base in
    let there : c.args.alternative < length (alternatives_of t.operations c.args.op) = rw c.self.view_is c.requires.alternative in
    let met = rw (c.ii.ensures.value, c.deref.ensures.value, c.in-Some.ensures.rows) at (c.is_met.ensures time (rw c.ii.ensures.value b)) in
    rw (← c.self.view_is) (free_from_unmet t.interval t.operations t.placed c.self.inside.units (is_owned c.self.inside.units c.self.inside.owners.items) c.ii.ensures.some
    (Occupies-from_owners t.interval c.self.inside.units t.operations t.placed c.self.inside.owners.items i.short i.owns)
    c.args.op c.args.alternative time c.is_met.result there (i.covered c.args.op c.args.alternative) c.in-Some.ensures.sound met)
