use Rattle.std.proofs.Common.{◌≡◌, ◌%◌, ◌<◌, length}
use Rattle.mrt.specs.Placements.{alternatives_of}
use Rattle.mrt.proofs.placements.Choosing.{slot_units}
use Rattle.mrt.proofs.searching.Taking.{free_from_unmet}
use Rattle.mrt.proofs.bits.BitTable.is_free.Goals as goal

pub is_met-requires-clause-laid : goal.is_met-requires-clause-laid
is_met-requires-clause-laid g c = rw (c.ii.ensures.value, c.deref.ensures.value) c.self.invariant.1

pub returns : goal.returns
returns g c time base =
    let t = c.self.inside.roster in
    let held = g.L.Layout.tells c.self.inside.width c.self.inside.words.items in
    let b : time % t.interval ≡ c.args.base = rw c.self.view_is base in
    let there : c.args.alternative < length (alternatives_of t.operations c.args.op) = rw c.self.view_is c.requires.alternative in
    let met = rw (c.ii.ensures.value, c.deref.ensures.value, c.in-Some.ensures.rows) at (c.is_met.ensures time (rw c.ii.ensures.value b)) in
    rw (← c.self.view_is) (free_from_unmet t.interval t.operations t.placed 64 held c.ii.ensures.some c.self.invariant.0.occupied
    c.args.op c.args.alternative time c.is_met.result there (slot_units t.interval c.in-Some.slots.now _ c.in-Some.ensures.rows c.in-Some.ensures.slots) c.in-Some.ensures.sound met)
