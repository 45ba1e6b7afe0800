use Rattle.std.proofs.Common.{◌-◌, ◌^◌, ◌∙◌, arith}
use Rattle.std.proofs.lemmas.Nat.Bits.{bit_at-zero, bit_at_ones}
use Rattle.mrt.proofs.slots.Timing.{bit_at-shl_above, bit_at-shl_below}
use Rattle.mrt.proofs.words.times.bits_from.Goals as goal

pub returns-then-place-lt64-clause-set : goal.returns-then-place-lt64-clause-set
returns-then-place-lt64-clause-set c k lt from = bit_at-shl_above (2 ^ 64 - 1) c.args.place k lt from ∙ bit_at_ones 64 (k - c.args.place) (omega arith)

pub returns-then-place-lt64-clause-clear : goal.returns-then-place-lt64-clause-clear
returns-then-place-lt64-clause-clear c k lt = bit_at-shl_below (2 ^ 64 - 1) c.args.place k (omega (arith, lt, c.if-place-lt64.true)) lt

pub returns-else-place-lt64-clause-clear : goal.returns-else-place-lt64-clause-clear
returns-else-place-lt64-clause-clear c k lt = bit_at-zero k
