use Rattle.std.proofs.Common.{take}
use Rattle.graph.specs.Subscripts.{GainsEdges, HasUses}
use Rattle.graph.proofs.dependence.collect.push_uses.Given as goal

abbrev pub invariant-loop-operand : goal.invariant-loop-operand
invariant-loop-operand l =
    GainsEdges l.statements l.latencies l.initial.list.items l.list.items × HasUses l.latencies l.to (take l.operand-index l.operand-items) l.list.items
