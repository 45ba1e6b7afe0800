use Rattle.kernel.proofs.shapes.FirstRule.{AreKept}
use Rattle.kernel.proofs.kernels.rules.first_failing.Given as goal

abbrev pub invariant-loop-rule : goal.invariant-loop-rule
invariant-loop-rule l = AreKept l.parts l.rule-index
