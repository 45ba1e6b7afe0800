use Rattle.std.proofs.Common.{◌∙◌, arith, cond, ap}
use Rattle.std.proofs.lemmas.List.{take_all}
use Rattle.mrt.specs.Taken.{takes}
use Rattle.mrt.specs.inner.Slots.{rows_in}
use Rattle.mrt.specs.inner.OwnerTables.{owner_at}
use Rattle.mrt.proofs.slots.Owning.{owner_at_more}
use Rattle.mrt.proofs.owner.mark.Goals as goal

pub loop-slot-preserved : goal.loop-slot-preserved
loop-slot-preserved c time unit residue base u r =
    owner_at_more c.args.ii c.args.units c.args.owners.now c.loop-slot.owners c.args.slots.now time c.loop-slot.slot-index _ c.place.result c.args.owner unit residue
    (omega arith) (omega arith) u (c.requires.covered c.loop-slot.slot-index _ (omega arith)) (c.place.ensures.value time base)
    (c.loop-slot.invariant time unit residue base u r)

pub returns : goal.returns
returns c time unit residue base u r =
    let all = take_all c.loop-slot.slot-index c.args.slots.now (omega arith) in
    c.loop-slot.invariant time unit residue base u r
    ∙ ap (λ slots. cond (takes c.args.ii (rows_in slots) time unit residue) c.args.owner (owner_at c.args.units c.args.owners.now unit residue)) all
