use Rattle.problems.specs.Faults.{value_fault}
use Rattle.problems.proofs.faults.Among.{IsLeft}
use Rattle.problems.proofs.checking.parts.first_in_values.Given as goal

abbrev pub invariant-loop-number : goal.invariant-loop-number
invariant-loop-number l = IsLeft (value_fault l.operations l.files) l.values l.number
