use Rattle.std.proofs.Common.{◌≡◌, ◌%◌, ◌<◌, None, length, drop, sym, ap, ◌∙◌}
use Rattle.std.proofs.lemmas.List.{take_at}
use Rattle.mrt.specs.Placements.{Placement, placement_of, IsFree}
use Rattle.mrt.proofs.placements.Choosing.{covered_slots}
use Rattle.mrt.proofs.slots.Owning.{IsOwnerTable-placed}
use Rattle.mrt.proofs.owner.OwnerTableModuloTable.claim.Goals as goal

pub mark-requires-clause-covered : goal.mark-requires-clause-covered
mark-requires-clause-covered c = covered_slots c.self.inside.units _ _ c.slots-slots.ensures.rows (c.self.invariant.covered c.args.op c.args.alternative)

pub invariant_of-self : goal.invariant_of-self
invariant_of-self c =
    let t = c.self.inside.roster in
    let at : Placement = record { time = c.args.time; alternative = c.args.alternative } in
    let base : c.args.time % t.interval ≡ c.residue-base.result = sym c.residue-base.ensures.value in
    let there : c.args.op < length t.operations = rw c.self.view_is c.requires.there in
    let unplaced : placement_of t.placed c.args.op ≡ None = rw c.self.view_is c.requires.unplaced in
    let free : IsFree t.interval t.operations t.placed c.args.op c.args.time c.args.alternative = rw c.self.view_is c.requires.free in
    let long : length c.mark.new.owners ≡ length c.self.inside.owners.items = c.mark.auto.owners ∙ ap length c.deref_mut.ensures.value in
    let whole = take_at c.mark.new.owners (drop (length c.mark.new.owners) c.self.inside.owners.items) c.self.inside.owners.len (long ∙ sym c.self.inside.owners.ok.0) in
    rw (c.place.ensures, whole) (IsOwnerTable-placed t c.self.inside.units c.self.inside.owners.items c.mark.new.owners c.args.op at c.self.invariant long there unplaced free
    (λ unit residue u r. rw (c.ii-ii.ensures.value, c.slots-slots.ensures.rows, c.deref_mut.ensures.value) at (c.mark.ensures c.args.time unit residue (rw c.ii-ii.ensures.value base) u (rw c.ii-ii.ensures.value r))))
