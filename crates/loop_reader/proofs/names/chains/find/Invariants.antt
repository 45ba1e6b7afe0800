use Rattle.loop_reader.proofs.lookups.Chains.{IsPassed}
use Rattle.loop_reader.proofs.names.chains.find.Given as goal

abbrev pub invariant-loop-at : goal.invariant-loop-at
invariant-loop-at l = IsPassed l.links l.name l.at

abbrev pub decreases-loop-at : goal.decreases-loop-at
decreases-loop-at l = l.at
