use Rattle.std.proofs.Common.{sym, ◌∙◌, arith}
use Rattle.mrt.proofs.slots.Owning.{takes_here}
use Rattle.mrt.proofs.rosters.roster.takes.Goals as goal

pub returns-then-residue : goal.returns-then-residue
returns-then-residue c time base =
    sym (takes_here c.args.ii c.args.slots.now time c.args.unit c.args.residue c.loop-slot.slot-index _ (omega arith) c.if-slot-unit.true (sym c.if-residue.true ∙ c.residue.ensures.value time base))
