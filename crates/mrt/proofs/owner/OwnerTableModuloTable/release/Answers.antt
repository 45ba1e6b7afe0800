use Rattle.std.proofs.Common.{◌≡◌, length, drop, sym, ap, ◌∙◌}
use Rattle.std.proofs.lemmas.List.{take_at}
use Rattle.mrt.specs.inner.Rosters.{placement}
use Rattle.mrt.proofs.placements.Choosing.{covered_slots}
use Rattle.mrt.proofs.slots.Owning.{IsOwnerTable-removed}
use Rattle.mrt.proofs.owner.OwnerTableModuloTable.release.Goals as goal

pub mark-requires-clause-covered : goal.mark-requires-clause-covered
mark-requires-clause-covered c = covered_slots c.self.inside.units _ _ c.slots-slots.ensures.rows (c.self.invariant.covered c.args.op c.in-Some.issue.alternative)

pub invariant_of-self : goal.invariant_of-self
invariant_of-self c =
    let t = c.self.inside.roster in
    let at = placement c.in-Some.issue in
    let base = sym c.in-Some.ensures.kept.base in
    let long : length c.mark.new.owners ≡ length c.self.inside.owners.items = c.mark.auto.owners ∙ ap length c.deref_mut.ensures.value in
    let whole = take_at c.mark.new.owners (drop (length c.mark.new.owners) c.self.inside.owners.items) c.self.inside.owners.len (long ∙ sym c.self.inside.owners.ok.0) in
    rw (c.remove.ensures, whole) (IsOwnerTable-removed t c.self.inside.units c.self.inside.owners.items c.mark.new.owners c.args.op at c.self.invariant long (sym c.in-Some.ensures.value)
    (λ unit residue u r. rw (c.ii-ii.ensures.value, c.slots-slots.ensures.rows, c.deref_mut.ensures.value) at (c.mark.ensures at.time unit residue (rw c.ii-ii.ensures.value base) u (rw c.ii-ii.ensures.value r))))
