use Rattle.std.proofs.Common.{pos, arith}
use Rattle.std.proofs.lemmas.List.{ext_get_or}
use Rattle.kernel_runs.specs.declared.flight.Pending.{Pending}
use Rattle.kernel_runs.specs.declared.flight.Place.TheVariants.{Register}
use Rattle.kernel_runs.proofs.same.same_writes.Goals as goal

pub returns : goal.returns
returns c same =
    let none : Pending = record { place = Register 0; value = pos 0 } in
    ext_get_or none c.args.one.now c.args.other.now (omega arith) (λ k h. c.loop-place.invariant k none (omega arith))
