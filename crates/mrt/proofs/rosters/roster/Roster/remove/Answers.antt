use Rattle.std.proofs.Common.{None}
use Rattle.mrt.proofs.placements.Rostering.{IsRoster-removed, table_of-set}
use Rattle.mrt.proofs.rosters.roster.Roster.remove.Goals as goal

pub invariant_of-self : goal.invariant_of-self
invariant_of-self c = IsRoster-removed _ _ _ _ c.self.invariant c.args.op

pub returns : goal.returns
returns c = rw (← c.self.view_is) (table_of-set _ _ _ _ c.args.op None)
