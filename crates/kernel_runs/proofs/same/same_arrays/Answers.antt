use Rattle.std.proofs.Common.{[], arith}
use Rattle.std.proofs.lemmas.List.{ext_get_or}
use Rattle.kernel_runs.proofs.same.same_arrays.Goals as goal

pub returns : goal.returns
returns c same = ext_get_or [] c.args.one.now.arrays c.args.other.now.arrays (omega arith) (λ k h. c.loop-array.invariant k (omega arith))
