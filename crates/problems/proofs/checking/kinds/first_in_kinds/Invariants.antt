use Rattle.problems.specs.Faults.{kind_fault}
use Rattle.problems.proofs.faults.Among.{IsLeft}
use Rattle.problems.proofs.checking.kinds.first_in_kinds.Given as goal

abbrev pub invariant-loop-number : goal.invariant-loop-number
invariant-loop-number l = IsLeft (kind_fault l.units) l.kinds l.number
