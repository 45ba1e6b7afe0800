use Rattle.std.proofs.Common.{◌≢◌, take}
use Rattle.std.specs.List.{AllPairs}
use Rattle.edges.specs.Edges.{EdgeData}
use Rattle.circuits.proofs.above.first_return.Given as goal

abbrev pub invariant-loop-end : goal.invariant-loop-end
invariant-loop-end l = AllPairs (λ (a b : EdgeData). a.from ≢ b.from) (take l.end l.walk)
