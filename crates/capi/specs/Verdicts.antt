-- What a check tells in numbers.
use Rattle.std.specs.Prelude.{pos}
use Rattle.schedules.specs.declared.breach.Breach.{Breach}
use Rattle.schedules.specs.declared.breach.Breach.TheVariants.{Count, Time, Alternative, Slot, Edge, Stage}
use Rattle.schedules.specs.Schedules.{stages_of}
use Rattle.problems.specs.declared.fault.Fault.{Fault}
use Rattle.solutions.specs.declared.judging.broken.Broken.{Broken}
use Rattle.solutions.specs.declared.judging.broken.Broken.TheVariants.{Interval, Numbers, Number, Schedule, Registers}
use Rattle.solutions.specs.Solutions.{SolutionData, schedule_of}
use Rattle.capi.specs.declared.verdict.Verdict.{Verdict}
use Rattle.capi.specs.Answers.{fault_numbers, without_fault}

abbrev pub silence : Verdict
silence = record { kind = 0; stages = 0; operation = 0; earlier = 0; unit = 0; residue = 0; from = 0; to = 0; distance = 0; delay = pos 0; early = 0; value = 0; other = 0; file = 0; register = 0; cycle = 0; misfit = 0; fault = without_fault }

abbrev pub misfit_verdict : Verdict
misfit_verdict = record { kind = 0; stages = 0; operation = 0; earlier = 0; unit = 0; residue = 0; from = 0; to = 0; distance = 0; delay = pos 0; early = 0; value = 0; other = 0; file = 0; register = 0; cycle = 0; misfit = 1; fault = without_fault }

abbrev pub faulty_verdict : Fault → Verdict
faulty_verdict fault = record { kind = 0; stages = 0; operation = 0; earlier = 0; unit = 0; residue = 0; from = 0; to = 0; distance = 0; delay = pos 0; early = 0; value = 0; other = 0; file = 0; register = 0; cycle = 0; misfit = 0; fault = fault_numbers fault }

abbrev pub lawful_verdict : SolutionData → Verdict
lawful_verdict s = record { kind = 0; stages = stages_of (schedule_of s); operation = 0; earlier = 0; unit = 0; residue = 0; from = 0; to = 0; distance = 0; delay = pos 0; early = 0; value = 0; other = 0; file = 0; register = 0; cycle = 0; misfit = 0; fault = without_fault }

-- what the places break, in kinds from 4
abbrev pub breach_verdict : Breach → Verdict
breach_verdict Count = record { kind = 4; stages = 0; operation = 0; earlier = 0; unit = 0; residue = 0; from = 0; to = 0; distance = 0; delay = pos 0; early = 0; value = 0; other = 0; file = 0; register = 0; cycle = 0; misfit = 0; fault = without_fault }
breach_verdict (Time op) = record { kind = 5; stages = 0; operation = op; earlier = 0; unit = 0; residue = 0; from = 0; to = 0; distance = 0; delay = pos 0; early = 0; value = 0; other = 0; file = 0; register = 0; cycle = 0; misfit = 0; fault = without_fault }
breach_verdict (Alternative op) = record { kind = 6; stages = 0; operation = op; earlier = 0; unit = 0; residue = 0; from = 0; to = 0; distance = 0; delay = pos 0; early = 0; value = 0; other = 0; file = 0; register = 0; cycle = 0; misfit = 0; fault = without_fault }
breach_verdict (Slot earlier later unit residue) = record { kind = 7; stages = 0; operation = later; earlier = earlier; unit = unit; residue = residue; from = 0; to = 0; distance = 0; delay = pos 0; early = 0; value = 0; other = 0; file = 0; register = 0; cycle = 0; misfit = 0; fault = without_fault }
breach_verdict (Edge edge early) = record { kind = 8; stages = 0; operation = 0; earlier = 0; unit = 0; residue = 0; from = edge.from; to = edge.to; distance = edge.distance; delay = edge.delay; early = early; value = 0; other = 0; file = 0; register = 0; cycle = 0; misfit = 0; fault = without_fault }
breach_verdict (Stage op) = record { kind = 9; stages = 0; operation = op; earlier = 0; unit = 0; residue = 0; from = 0; to = 0; distance = 0; delay = pos 0; early = 0; value = 0; other = 0; file = 0; register = 0; cycle = 0; misfit = 0; fault = without_fault }

-- what is broken, in kinds from 1
abbrev pub broken_verdict : Broken → Verdict
broken_verdict Interval = record { kind = 1; stages = 0; operation = 0; earlier = 0; unit = 0; residue = 0; from = 0; to = 0; distance = 0; delay = pos 0; early = 0; value = 0; other = 0; file = 0; register = 0; cycle = 0; misfit = 0; fault = without_fault }
broken_verdict Numbers = record { kind = 2; stages = 0; operation = 0; earlier = 0; unit = 0; residue = 0; from = 0; to = 0; distance = 0; delay = pos 0; early = 0; value = 0; other = 0; file = 0; register = 0; cycle = 0; misfit = 0; fault = without_fault }
broken_verdict (Number value) = record { kind = 3; stages = 0; operation = 0; earlier = 0; unit = 0; residue = 0; from = 0; to = 0; distance = 0; delay = pos 0; early = 0; value = value; other = 0; file = 0; register = 0; cycle = 0; misfit = 0; fault = without_fault }
broken_verdict (Schedule breach) = breach_verdict breach
broken_verdict (Registers file earlier later register cycle) = record { kind = 10; stages = 0; operation = 0; earlier = 0; unit = 0; residue = 0; from = 0; to = 0; distance = 0; delay = pos 0; early = 0; value = later; other = earlier; file = file; register = register; cycle = cycle; misfit = 0; fault = without_fault }
