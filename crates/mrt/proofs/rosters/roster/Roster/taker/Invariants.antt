use Rattle.std.proofs.Common.{ℕ, ◌<◌}
use Rattle.mrt.specs.Taken.{Takes}
use Rattle.mrt.proofs.rosters.roster.Roster.taker.Given as goal

-- no operation before this one takes the slot
abbrev pub invariant-loop-op : goal.invariant-loop-op
invariant-loop-op l = (before : ℕ) → before < l.op → Takes l.self.interval l.self.operations l.self.placed l.slot.row.unit l.residue before → ⊥
