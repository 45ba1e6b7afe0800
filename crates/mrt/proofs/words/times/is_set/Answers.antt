use Rattle.std.proofs.Common.{◌%◌, ◌<◌, arith}
use Rattle.std.proofs.lemmas.Nat.{one_shl}
use Rattle.mrt.proofs.slots.Masking.{test_is}
use Rattle.mrt.proofs.words.times.is_set.Goals as goal

pub returns : goal.returns
returns c =
    let bit = c.args.place % 64 in
    let low : bit < 64 = omega arith in
    rw c.from.ensures (test_is _ _ bit (one_shl bit 64 low))
