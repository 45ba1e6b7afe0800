use Rattle.std.proofs.Common.{take}
use Rattle.registers.specs.Allotments.{IsLawfulAllotment}
use Rattle.registers.proofs.numbers.meetings.first_meeting.Given as goal

abbrev pub invariant-loop-later : goal.invariant-loop-later
invariant-loop-later l = IsLawfulAllotment l.ii l.registers (take l.later l.lives) (take l.later l.numbers)
