use Rattle.std.proofs.Common.{◌≡◌, ◌<◌, ◌%◌, false, sym, ◌∙◌, Some}
use Rattle.std.specs.List.{slice_get}
use Rattle.std.proofs.lemmas.Option.{slice_get_within}
use Rattle.machine_data.specs.Alternative.{residue_of}
use Rattle.mrt.specs.declared.rosters.slot.Slot.{Slot}
use Rattle.mrt.specs.Placements.{rows_of}
use Rattle.mrt.proofs.placements.Choosing.{row_within}
use Rattle.mrt.proofs.searching.Taking.{row_at}
use Rattle.mrt.proofs.slots.Masking.{unmarked, nobody_holds, holder_of_taker}
use Rattle.mrt.proofs.bits.BitTableModuloTable.holder.Goals as goal

zero : Slot
zero = record { row = record { unit = 0; offset = 0 }; turn = 0; mask = 0 }

pub is_held-requires-clause-laid : goal.is_held-requires-clause-laid
is_held-requires-clause-laid g c = rw (c.ii-ii.ensures.value, c.deref.ensures.value) c.self.invariant.1

pub returns-then-not-is_held : goal.returns-then-not-is_held
unfolding zero
returns-then-not-is_held g c r here =
    let t = c.self.inside.roster in
    let held = g.L.Layout.tells c.self.inside.width c.self.inside.words.items in
    let at_row : slice_get (rows_of t.operations c.args.op c.args.alternative) c.args.row ≡ Some r = rw c.self.view_is here in
    let within = row_within _ _ c.args.row c.slots.ensures.rows (slice_get_within _ c.args.row r at_row) in
    let same = row_at c.slots.result.now _ c.args.row r zero c.slots.ensures.rows at_row in
    let slot = c.slots.ensures.slots c.args.row zero within in
    let base : c.args.time % c.ii-ii.result ≡ c.residue.result = rw c.ii-ii.ensures.value (sym c.residue.ensures.value) in
    let at : c.residue-residue.result ≡ residue_of t.interval r c.args.time = rw (c.ii-ii.ensures.value, same) at (c.residue-residue.ensures.value c.args.time base) in
    let free : held r.unit (residue_of t.interval r c.args.time) ≡ false = rw (c.deref.ensures.value, at, same) at (sym c.is_held.ensures ∙ c.if-not-is_held.true) in
    let unit : r.unit < 64 = rw same at slot.unit in
    rw (← c.self.view_is) (nobody_holds t.interval t.operations t.placed r c.args.time
    (unmarked t.interval t.operations t.placed r c.args.time held c.ii-ii.ensures.some unit c.self.invariant.0.occupied free))

pub returns : goal.returns
unfolding zero
returns g c r here =
    let t = c.self.inside.roster in
    let at_row : slice_get (rows_of t.operations c.args.op c.args.alternative) c.args.row ≡ Some r = rw c.self.view_is here in
    let same = row_at c.slots.result.now _ c.args.row r zero c.slots.ensures.rows at_row in
    let base : c.args.time % c.ii-ii.result ≡ c.residue.result = rw c.ii-ii.ensures.value (sym c.residue.ensures.value) in
    let at : c.residue-residue.result ≡ residue_of t.interval r c.args.time = rw (c.ii-ii.ensures.value, same) at (c.residue-residue.ensures.value c.args.time base) in
    rw (← c.self.view_is) (holder_of_taker t.interval t.operations t.placed r c.args.time c.self.invariant.0.apart c.taker.result (rw (at, same) at c.taker.ensures))
