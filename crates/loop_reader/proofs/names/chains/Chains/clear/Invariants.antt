use Rattle.loop_reader.proofs.lookups.Chains.{IsEmptied}
use Rattle.loop_reader.proofs.names.chains.Chains.clear.Given as goal

abbrev pub invariant-loop-link : goal.invariant-loop-link
invariant-loop-link l = IsEmptied l.link-items l.link-index l.self-inside.1.1.0.items
