use Rattle.std.proofs.Common.{take}
use Rattle.std.specs.List.{All}
use Rattle.kernel.specs.Check.{RegistersAreThere}
use Rattle.kernel.proofs.kernels.rules.have_registers.Given as goal

abbrev pub invariant-loop-op : goal.invariant-loop-op
invariant-loop-op l = All (RegistersAreThere l.registers) (take l.op-index l.operations)
