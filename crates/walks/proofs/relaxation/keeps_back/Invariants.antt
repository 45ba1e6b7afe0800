use Rattle.walks.proofs.Sweeps.{KeepBack}
use Rattle.walks.proofs.relaxation.keeps_back.Given as goal

abbrev pub invariant-loop-edge : goal.invariant-loop-edge
invariant-loop-edge l = KeepBack l.edges.edges l.interval l.numbers l.edge-index
