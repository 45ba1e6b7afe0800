use Rattle.std.proofs.Common.{[], arith}
use Rattle.std.proofs.lemmas.List.{ext_get_or}
use Rattle.kernel_runs.proofs.same.same_slots.Goals as goal

pub returns : goal.returns
returns c same =
    let v = c.loop-slot.invariant in
    let long = v.1 (omega arith) in
    ext_get_or [] c.args.one.now.slots c.args.other.now.slots (omega (arith, long.0, long.1)) (λ k h. v.0 k (omega (arith, long.0)))
