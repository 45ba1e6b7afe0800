use Rattle.problem_printouts.proofs.Strangers.{ArePast}
use Rattle.problem_printouts.proofs.unknown.first_unknown.Given as goal

-- the solutions so far have no unknown name
abbrev pub invariant-loop-number : goal.invariant-loop-number
invariant-loop-number l = ArePast l.file l.list l.number
