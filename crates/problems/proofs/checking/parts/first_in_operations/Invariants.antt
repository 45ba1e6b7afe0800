use Rattle.problems.specs.Faults.{operation_fault}
use Rattle.problems.proofs.faults.Among.{IsLeft}
use Rattle.problems.proofs.checking.parts.first_in_operations.Given as goal

abbrev pub invariant-loop-number : goal.invariant-loop-number
invariant-loop-number l = IsLeft (operation_fault l.kinds) l.operations l.number
