use Rattle.std.proofs.Common.{refl, arith}
use Rattle.std.proofs.lemmas.Bool.{false≢true}
use Rattle.kernel.specs.Check.{IsPlaced}
use Rattle.kernel.proofs.shapes.Deciding.{stops, goes_on, ends}
use Rattle.kernel.proofs.kernels.rules.are_placed.Goals as goal

pub returns-then-not-is_placed : goal.returns-then-not-is_placed
returns-then-not-is_placed c =
    stops (IsPlaced c.args.arrays) c.args.operations.now c.loop-op.op-index _ (omega arith) c.op-item.is (λ p. absurd (false≢true (c.if-not-is_placed.ensures.1 p)))

pub loop-op-preserved : goal.loop-op-preserved
loop-op-preserved c =
    goes_on (IsPlaced c.args.arrays) c.args.operations.now c.loop-op.op-index _ (omega arith) c.op-item.is c.loop-op.invariant (c.if-not-is_placed.ensures.0 refl)

pub returns : goal.returns
returns c = ends (IsPlaced c.args.arrays) c.args.operations.now c.loop-op.op-index (omega arith) c.loop-op.invariant
