use Rattle.std.proofs.Common.{◌≡◌, map, take}
use Rattle.overlap.specs.Emission.{source_of}
use Rattle.rotating.proofs.kernels.naming.sources_of.Given as goal

abbrev pub invariant-loop-operand : goal.invariant-loop-operand
invariant-loop-operand l = (l.list.items ≡ map (source_of l.schedule l.allotment l.stage) (take l.operand-index l.operands)) × (l.list.capacity ≡ 3)
