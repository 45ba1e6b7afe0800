use Rattle.std.proofs.Common.{◌≡◌, ◌<◌, ◌+◌, ◌*◌, ◌%◌, length, sym, ap, ◌∙◌, arith, Some}
use Rattle.std.specs.List.{slice_get}
use Rattle.std.proofs.lemmas.Option.{slice_get_within}
use Rattle.machine_data.specs.declared.alternative.Row.{Row}
use Rattle.machine_data.specs.Alternative.{residue_of}
use Rattle.mrt.specs.Placements.{rows_of}
use Rattle.mrt.specs.declared.rosters.slot.Slot.{Slot}
use Rattle.mrt.specs.inner.OwnerTables.{owner_at}
use Rattle.mrt.proofs.placements.Choosing.{covered_slots, row_within}
use Rattle.mrt.proofs.searching.Taking.{row_at}
use Rattle.mrt.proofs.slots.Owning.{no_holder, one_holder, owner_read}
use Rattle.mrt.proofs.owner.OwnerTableModuloTable.holder.Goals as goal
use Rattle.mrt.proofs.owner.OwnerTableModuloTable.holder.Goals.{After-index-owner}

pub place-requires-clause-unit : goal.place-requires-clause-unit
place-requires-clause-unit c =
    let inside : c.args.row < length (rows_of c.self.inside.roster.operations c.args.op c.args.alternative) = rw c.self.view_is c.requires.row in
    covered_slots c.self.inside.units _ _ c.slots.ensures.rows (c.self.invariant.covered c.args.op c.args.alternative) c.args.row _ (row_within _ _ c.args.row c.slots.ensures.rows inside)

-- the owner that was read is that of the row's slot, and the row's unit has a place
read : (c : After-index-owner) (r : Row) → slice_get (rows_of c.self.inside.roster.operations c.args.op c.args.alternative) c.args.row ≡ Some r
    → (c.index-owner.result.now ≡ owner_at c.self.inside.units c.self.inside.owners.items r.unit (residue_of c.self.inside.roster.interval r c.args.time)) × (r.unit < c.self.inside.units)
read c r here =
    let t = c.self.inside.roster in
    let zero : Slot = record { row = record { unit = 0; offset = 0 }; turn = 0; mask = 0 } in
    let same = row_at c.slots.result.now _ c.args.row r zero c.slots.ensures.rows here in
    let base : c.args.time % c.ii.result ≡ c.residue.result = rw c.ii.ensures.value (sym c.residue.ensures.value) in
    let at : c.place.result ≡ residue_of t.interval r c.args.time * c.self.inside.units + r.unit = rw (c.ii.ensures.value, same) at (c.place.ensures.value c.args.time base) in
    let within : c.place.result < length c.self.inside.owners.items = omega (arith, c.place.ensures.within, ap (λ n. n * c.self.inside.units) c.ii.ensures.value, c.self.invariant.long) in
    let unit = covered_slots c.self.inside.units _ _ c.slots.ensures.rows (c.self.invariant.covered c.args.op c.args.alternative) c.args.row zero (row_within _ _ c.args.row c.slots.ensures.rows (slice_get_within _ c.args.row r here)) in
    (owner_read c.self.inside.units c.self.inside.owners.items c.place.result c.index-owner.result.now r.unit (residue_of t.interval r c.args.time) within c.index-owner.ensures at, rw same at unit)

pub returns-then-owner : goal.returns-then-owner
returns-then-owner c r here =
    let t = c.self.inside.roster in
    let at_row : slice_get (rows_of t.operations c.args.op c.args.alternative) c.args.row ≡ Some r = rw c.self.view_is here in
    let is = read (goal.at.returns-then-owner c).After-index-owner r at_row in
    rw (← c.self.view_is) (no_holder t.interval c.self.inside.units t.operations t.placed c.self.inside.owners.items r c.args.time c.ii.ensures.some is.1 c.self.invariant.owns
    c.self.invariant.short (sym is.0 ∙ c.if-owner.true))

pub returns-else-owner : goal.returns-else-owner
returns-else-owner c r here =
    let t = c.self.inside.roster in
    let at_row : slice_get (rows_of t.operations c.args.op c.args.alternative) c.args.row ≡ Some r = rw c.self.view_is here in
    let is = read (goal.at.returns-else-owner c).After-index-owner r at_row in
    rw (← c.self.view_is, is.0) (one_holder t.interval c.self.inside.units t.operations t.placed c.self.inside.owners.items r c.args.time c.ii.ensures.some is.1 c.self.invariant.owns
    (λ e. c.if-owner.false (is.0 ∙ e)))
