use Rattle.unit_bound.proofs.Tally.{Tallies-none, AtMost-none}
use Rattle.resource_bound.proofs.tally.Tally.none.Goals as goal

pub returns-clause-tallied : goal.returns-clause-tallied
returns-clause-tallied c = Tallies-none

pub returns-clause-empty : goal.returns-clause-empty
returns-clause-empty c = AtMost-none
