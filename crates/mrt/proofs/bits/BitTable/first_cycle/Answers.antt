-- Where the slots meet one that is held, the operation cannot be issued, and where they meet none, it can.
use Rattle.std.proofs.Common.{◌≡◌, ◌<◌, ◌%◌, ◌+◌, length}
use Rattle.mrt.specs.Placements.{alternatives_of}
use Rattle.mrt.proofs.placements.Choosing.{slot_units}
use Rattle.mrt.proofs.searching.Searching.{free_from_met, taken_from_met}
use Rattle.mrt.proofs.bits.BitTable.first_cycle.Goals as goal

pub first_unmet-requires-clause-laid : goal.first_unmet-requires-clause-laid
first_unmet-requires-clause-laid g c = rw (c.ii.ensures.value, c.deref.ensures.value) c.self.invariant.1

pub returns-clause-none_sooner : goal.returns-clause-none_sooner
returns-clause-none_sooner g c time sooner base lt =
    let t = c.self.inside.roster in
    let held = g.L.Layout.tells c.self.inside.width c.self.inside.words.items in
    let b : time % t.interval ≡ c.args.base = rw c.self.view_is base in
    let there : c.args.alternative < length (alternatives_of t.operations c.args.op) = rw c.self.view_is c.requires.alternative in
    let met = rw (c.ii.ensures.value, c.deref.ensures.value, c.in-Some.ensures.rows) at (c.first_unmet.ensures.met time sooner (rw c.ii.ensures.value b) lt) in
    rw (← c.self.view_is) (taken_from_met t.interval t.operations t.placed held c.ii.ensures.some c.self.invariant.0.occupied c.args.op c.args.alternative
    there (slot_units t.interval c.in-Some.slots.now _ c.in-Some.ensures.rows c.in-Some.ensures.slots) c.in-Some.ensures.sound (time + sooner) met)

pub returns-clause-free : goal.returns-clause-free
returns-clause-free g c time base lt =
    let t = c.self.inside.roster in
    let held = g.L.Layout.tells c.self.inside.width c.self.inside.words.items in
    let b : time % t.interval ≡ c.args.base = rw c.self.view_is base in
    let there : c.args.alternative < length (alternatives_of t.operations c.args.op) = rw c.self.view_is c.requires.alternative in
    let unmet = rw (c.ii.ensures.value, c.deref.ensures.value, c.in-Some.ensures.rows) at (c.first_unmet.ensures.unmet time (rw c.ii.ensures.value b) lt) in
    rw (← c.self.view_is) (free_from_met t.interval t.operations t.placed held c.ii.ensures.some c.self.invariant.0.occupied c.args.op c.args.alternative
    there (slot_units t.interval c.in-Some.slots.now _ c.in-Some.ensures.rows c.in-Some.ensures.slots) c.in-Some.ensures.sound (time + c.first_unmet.result) unmet)
