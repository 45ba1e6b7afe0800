use Rattle.std.proofs.Common.{◌≡◌, ◌%◌, ◌<◌, None, length, drop, sym, ap, ◌∙◌}
use Rattle.std.proofs.lemmas.List.{take_at}
use Rattle.mrt.specs.Placements.{Placement, placement_of, IsFree}
use Rattle.mrt.proofs.slots.Masking.{IsBitTable-placed}
use Rattle.mrt.proofs.bits.BitTableModuloTable.claim.Goals as goal

pub mark-requires-clause-laid : goal.mark-requires-clause-laid
mark-requires-clause-laid g c = rw (c.ii-ii.ensures.value, c.deref_mut.ensures.value) c.self.invariant.1

pub invariant_of-self : goal.invariant_of-self
invariant_of-self g c =
    let t = c.self.inside.roster in
    let tells = g.L.Layout.tells c.self.inside.width in
    let at : Placement = record { time = c.args.time; alternative = c.args.alternative } in
    let base : c.args.time % t.interval ≡ c.residue-base.result = sym c.residue-base.ensures.value in
    let there : c.args.op < length t.operations = rw c.self.view_is c.requires.there in
    let unplaced : placement_of t.placed c.args.op ≡ None = rw c.self.view_is c.requires.unplaced in
    let free : IsFree t.interval t.operations t.placed c.args.op c.args.time c.args.alternative = rw c.self.view_is c.requires.free in
    let long : length c.mark.new.words ≡ length c.self.inside.words.items = c.mark.auto.words ∙ ap length c.deref_mut.ensures.value in
    let whole = take_at c.mark.new.words (drop (length c.mark.new.words) c.self.inside.words.items) c.self.inside.words.len (long ∙ sym c.self.inside.words.ok.0) in
    rw (c.place.ensures, whole) (
      IsBitTable-placed t (tells c.self.inside.words.items) (tells c.mark.new.words) c.args.op at c.self.invariant.0 there unplaced free
          (λ unit residue u r. rw (c.ii-ii.ensures.value, c.slots-slots.ensures.rows, c.deref_mut.ensures.value) at (c.mark.ensures.marked c.args.time unit residue (rw c.ii-ii.ensures.value base) u (rw c.ii-ii.ensures.value r))),
      rw c.ii-ii.ensures.value at c.mark.ensures.laid,
    )
