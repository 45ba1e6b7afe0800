use Rattle.std.specs.List.{All}
use Rattle.graph.specs.Subscripts.{IsFound, HasAllEdges}
use Rattle.graph.proofs.dependence.collect.collect.Given as goal

abbrev pub invariant-loop-to : goal.invariant-loop-to
invariant-loop-to l = All (IsFound l.statements l.latencies) l.list.items × HasAllEdges l.statements l.latencies l.to l.list.items
