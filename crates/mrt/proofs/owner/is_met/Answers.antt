use Rattle.std.proofs.Common.{sym, arith}
use Rattle.mrt.proofs.slots.Owning.{meets_owner}
use Rattle.mrt.proofs.owner.is_met.Goals as goal

pub returns-then-owners-place : goal.returns-then-owners-place
returns-then-owners-place c time base =
    sym (meets_owner c.args.ii c.args.units c.args.owners.now c.args.slots.now time c.loop-slot.slot-index _ c.place.result (omega arith) (c.place.ensures.value time base) c.if-owners-place.true)
