use Rattle.std.proofs.Common.{◌≡◌, length}
use Rattle.devices.proofs.TextLemmas.{Written}
use Rattle.devices.proofs.text.give.Given as goal

abbrev pub invariant-loop-rest : goal.invariant-loop-rest
invariant-loop-rest g l = record {
  written : Written (g.O.Output.taken l.fn.output) (g.O.Output.taken l.output) l.text l.rest;
  fine : g.O.Output.failed l.output ≡ g.O.Output.failed l.fn.output;
}

abbrev pub decreases-loop-rest : goal.decreases-loop-rest
decreases-loop-rest g l = length l.rest
