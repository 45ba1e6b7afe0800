use Rattle.problems.specs.Faults.{row_fault}
use Rattle.problems.proofs.faults.Among.{IsLeft}
use Rattle.problems.proofs.checking.kinds.alternative_fault.Given as goal

abbrev pub invariant-loop-number : goal.invariant-loop-number
invariant-loop-number l = IsLeft (row_fault l.units l.kind l.alternative l.rows) l.rows l.number
