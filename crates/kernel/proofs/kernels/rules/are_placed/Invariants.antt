use Rattle.std.proofs.Common.{take}
use Rattle.std.specs.List.{All}
use Rattle.kernel.specs.Check.{IsPlaced}
use Rattle.kernel.proofs.kernels.rules.are_placed.Given as goal

abbrev pub invariant-loop-op : goal.invariant-loop-op
invariant-loop-op l = All (IsPlaced l.arrays) (take l.op-index l.operations)
