use Rattle.std.proofs.Common.{◌<◌}
use Rattle.mrt.proofs.placements.Rostering.{rows_of-all}
use Rattle.mrt.proofs.rosters.roster.Roster.units.Goals as goal

pub returns-clause-covered : goal.returns-clause-covered
returns-clause-covered c = rw (← c.self.view_is) (rows_of-all (λ r. r.unit < c.units.result) _ _ c.units.ensures.covered)
