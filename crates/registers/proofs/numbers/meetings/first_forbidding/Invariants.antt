use Rattle.std.proofs.Common.{take}
use Rattle.registers.specs.Residues.{IsFreeNumber}
use Rattle.registers.proofs.numbers.meetings.first_forbidding.Given as goal

abbrev pub invariant-loop-k : goal.invariant-loop-k
invariant-loop-k l = IsFreeNumber l.ii l.registers (take l.k l.lives) l.numbers l.other l.number
