use Rattle.std.proofs.Common.{pos, arith}
use Rattle.std.proofs.lemmas.List.{ext_get_or}
use Rattle.kernel_runs.proofs.same.same_values.Goals as goal

pub returns : goal.returns
returns c same = ext_get_or (pos 0) c.args.one.now c.args.other.now (omega arith) (λ k h. c.loop-place.invariant k (omega arith))
