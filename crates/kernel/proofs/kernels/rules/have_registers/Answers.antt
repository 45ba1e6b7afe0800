use Rattle.std.proofs.Common.{refl, arith}
use Rattle.std.proofs.lemmas.Bool.{false≢true}
use Rattle.kernel.specs.Check.{RegistersAreThere}
use Rattle.kernel.proofs.shapes.Deciding.{stops, goes_on, ends}
use Rattle.kernel.proofs.kernels.rules.have_registers.Goals as goal

pub returns-then-not-registers_are_there : goal.returns-then-not-registers_are_there
returns-then-not-registers_are_there c =
    stops (RegistersAreThere c.args.registers) c.args.operations.now c.loop-op.op-index _ (omega arith) c.op-item.is (λ p. absurd (false≢true (c.if-not-registers_are_there.ensures.1 p)))

pub loop-op-preserved : goal.loop-op-preserved
loop-op-preserved c =
    goes_on (RegistersAreThere c.args.registers) c.args.operations.now c.loop-op.op-index _ (omega arith) c.op-item.is c.loop-op.invariant (c.if-not-registers_are_there.ensures.0 refl)

pub returns : goal.returns
returns c = ends (RegistersAreThere c.args.registers) c.args.operations.now c.loop-op.op-index (omega arith) c.loop-op.invariant
