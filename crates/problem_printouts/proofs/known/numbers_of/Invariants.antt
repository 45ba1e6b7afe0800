use Rattle.std.proofs.Common.{take}
use Rattle.problem_printouts.specs.Judging.{problem_names}
use Rattle.problem_printouts.specs.inner.Known.{AreNumbers}
use Rattle.problem_printouts.proofs.known.numbers_of.Given as goal

-- the map has the numbers of the names so far
abbrev pub invariant-loop-number : goal.invariant-loop-number
invariant-loop-number l = AreNumbers (take l.number (problem_names l.file)) l.numbers
