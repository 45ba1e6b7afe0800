use Rattle.std.proofs.Common.{arith}
use Rattle.mrt.proofs.placements.Residues.{residue_below, residue_past}
use Rattle.mrt.proofs.rosters.slot.Slot.residue.Goals as goal

pub returns-then-sum-ii-clause-value : goal.returns-then-sum-ii-clause-value
returns-then-sum-ii-clause-value c time b = residue_below _ _ _ time _ b c.requires.slot.turn (omega arith)

pub returns-else-sum-ii-clause-value : goal.returns-else-sum-ii-clause-value
returns-else-sum-ii-clause-value c time b = residue_past _ _ _ time _ (omega arith) b c.requires.slot.turn (omega arith)
