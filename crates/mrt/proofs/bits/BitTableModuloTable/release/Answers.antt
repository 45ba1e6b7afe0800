use Rattle.std.proofs.Common.{◌≡◌, length, drop, sym, ap, ◌∙◌}
use Rattle.std.proofs.lemmas.List.{take_at}
use Rattle.mrt.specs.inner.Rosters.{placement}
use Rattle.mrt.proofs.slots.Masking.{IsBitTable-removed}
use Rattle.mrt.proofs.bits.BitTableModuloTable.release.Goals as goal

pub mark-requires-clause-laid : goal.mark-requires-clause-laid
mark-requires-clause-laid g c = rw (c.ii-ii.ensures.value, c.deref_mut.ensures.value) c.self.invariant.1

pub invariant_of-self : goal.invariant_of-self
invariant_of-self g c =
    let t = c.self.inside.roster in
    let tells = g.L.Layout.tells c.self.inside.width in
    let at = placement c.in-Some.issue in
    let base = sym c.in-Some.ensures.kept.base in
    let long : length c.mark.new.words ≡ length c.self.inside.words.items = c.mark.auto.words ∙ ap length c.deref_mut.ensures.value in
    let whole = take_at c.mark.new.words (drop (length c.mark.new.words) c.self.inside.words.items) c.self.inside.words.len (long ∙ sym c.self.inside.words.ok.0) in
    rw (c.remove.ensures, whole) (
      IsBitTable-removed t (tells c.self.inside.words.items) (tells c.mark.new.words) c.args.op at c.self.invariant.0 (sym c.in-Some.ensures.value)
          (λ unit residue u r. rw (c.ii-ii.ensures.value, c.slots-slots.ensures.rows, c.deref_mut.ensures.value) at (c.mark.ensures.marked at.time unit residue (rw c.ii-ii.ensures.value base) u (rw c.ii-ii.ensures.value r))),
      rw c.ii-ii.ensures.value at c.mark.ensures.laid,
    )
