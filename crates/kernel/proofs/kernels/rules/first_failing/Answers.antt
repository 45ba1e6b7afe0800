use Rattle.std.proofs.Common.{arith}
use Rattle.kernel.proofs.shapes.FirstRule.{kept_all}
use Rattle.kernel.proofs.kernels.rules.first_failing.Goals as goal

pub returns : goal.returns
returns c = kept_all c.args.parts.now c.loop-rule.rule-index (omega arith) c.loop-rule.invariant
