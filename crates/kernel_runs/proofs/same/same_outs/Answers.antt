use Rattle.std.proofs.Common.{pos, arith}
use Rattle.std.proofs.lemmas.List.{ext_get_or}
use Rattle.kernel_runs.proofs.same.same_outs.Goals as goal

pub returns : goal.returns
returns c same = ext_get_or (pos 0) c.args.one.now.outs c.args.other.now.outs (omega arith) (λ k h. c.loop-out.invariant k (omega arith))
