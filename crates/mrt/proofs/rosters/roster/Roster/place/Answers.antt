use Rattle.std.proofs.Common.{Some}
use Rattle.mrt.proofs.placements.Rostering.{IsRoster-placed, table_of-set}
use Rattle.mrt.proofs.rosters.roster.Roster.place.Goals as goal

pub invariant_of-self : goal.invariant_of-self
invariant_of-self c = IsRoster-placed _ _ _ _ c.self.invariant c.args.op c.args.issue (rw (← c.self.view_is) at c.requires.issue)

pub returns : goal.returns
returns c = rw (← c.self.view_is) (table_of-set _ _ _ _ c.args.op (Some c.args.issue))
