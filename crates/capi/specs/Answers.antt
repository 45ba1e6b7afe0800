-- What is told in numbers.
use Rattle.std.specs.Prelude.{ℕ}
use Rattle.schedules.specs.Problems.{mii_of}
use Rattle.schedules.specs.Schedules.{stages_of}
use Rattle.problems.specs.declared.fault.Part.{Part}
use Rattle.problems.specs.declared.fault.Part.TheVariants.{Units, Files, Kinds, Operations, Values, Reads, Orders}
use Rattle.problems.specs.declared.fault.Fault.{Fault}
use Rattle.problems.specs.declared.fault.Fault.TheVariants.{Count, NameCount, Repeated, Registers, Latency, Alternatives, Rows, NoUnit, Offset, RepeatedRow, NoKind, NoMaker, Lands, NoFile, NoValue, NoReader, Distance, ReadOffset, ReadBackward, NoFrom, NoTo, Delay, OrderDistance, OrderBackward}
use Rattle.problems.specs.Problems.{ProblemData}
use Rattle.solutions.specs.declared.solving.outcome.Cause.{Cause}
use Rattle.solutions.specs.declared.solving.outcome.Cause.TheVariants as cause
use Rattle.solutions.specs.Outcomes.{last_of}
use Rattle.solutions.specs.Solutions.{SolutionData, schedule_of}
use Rattle.capi.specs.declared.answer.FaultNumbers.{FaultNumbers}
use Rattle.capi.specs.declared.answer.Answer.{Answer}

abbrev pub without_fault : FaultNumbers
without_fault = record { kind = 0; part = 0; first = 0; second = 0; third = 0 }

abbrev pub nothing : Answer
nothing = record { interval = 0; stages = 0; mii = 0; resources = 0; recurrences = 0; cause = 0; file = 0; value = 0; misfit = 0; fault = without_fault }

-- parts from 1
abbrev pub part_number : Part → ℕ
part_number Units = 1
part_number Files = 2
part_number Kinds = 3
part_number Operations = 4
part_number Values = 5
part_number Reads = 6
part_number Orders = 7

abbrev pub of_part : ℕ → Part → ℕ → FaultNumbers
of_part kind part first = record { kind = kind; part = part_number part; first = first; second = 0; third = 0 }

abbrev pub of_items : ℕ → ℕ → ℕ → ℕ → FaultNumbers
of_items kind first second third = record { kind = kind; part = 0; first = first; second = second; third = third }

-- kinds of faults from 1
abbrev pub fault_numbers : Fault → FaultNumbers
fault_numbers (Count part count) = of_part 1 part count
fault_numbers (NameCount part) = of_part 2 part 0
fault_numbers (Repeated part name) = of_part 3 part name
fault_numbers (Registers file) = of_items 4 file 0 0
fault_numbers (Latency kind) = of_items 5 kind 0 0
fault_numbers (Alternatives kind) = of_items 6 kind 0 0
fault_numbers (Rows kind alternative) = of_items 7 kind alternative 0
fault_numbers (NoUnit kind alternative row) = of_items 8 kind alternative row
fault_numbers (Offset kind alternative row) = of_items 9 kind alternative row
fault_numbers (RepeatedRow kind alternative row) = of_items 10 kind alternative row
fault_numbers (NoKind operation) = of_items 11 operation 0 0
fault_numbers (NoMaker value) = of_items 12 value 0 0
fault_numbers (Lands value) = of_items 13 value 0 0
fault_numbers (NoFile value) = of_items 14 value 0 0
fault_numbers (NoValue reading) = of_items 15 reading 0 0
fault_numbers (NoReader reading) = of_items 16 reading 0 0
fault_numbers (Distance reading) = of_items 17 reading 0 0
fault_numbers (ReadOffset reading) = of_items 18 reading 0 0
fault_numbers (ReadBackward reading) = of_items 19 reading 0 0
fault_numbers (NoFrom order) = of_items 20 order 0 0
fault_numbers (NoTo order) = of_items 21 order 0 0
fault_numbers (Delay order) = of_items 22 order 0 0
fault_numbers (OrderDistance order) = of_items 23 order 0 0
fault_numbers (OrderBackward order) = of_items 24 order 0 0

-- causes from 1, each with a register file and a value
abbrev pub cause_numbers : Cause → ℕ × ℕ × ℕ
cause_numbers cause.Table = (1, 0, 0)
cause_numbers cause.Budget = (2, 0, 0)
cause_numbers cause.Stages = (3, 0, 0)
cause_numbers (cause.Registers file value) = (4, file, value)

abbrev pub misfit_answer : ℕ → Answer
misfit_answer misfit = record { interval = 0; stages = 0; mii = 0; resources = 0; recurrences = 0; cause = 0; file = 0; value = 0; misfit = misfit; fault = without_fault }

abbrev pub fault_answer : Fault → Answer
fault_answer fault = record { interval = 0; stages = 0; mii = 0; resources = 0; recurrences = 0; cause = 0; file = 0; value = 0; misfit = 0; fault = fault_numbers fault }

-- the interval and the stages of a solution, and the bounds of its problem
abbrev pub met_answer : ProblemData → SolutionData → Answer
met_answer problem s = record {
  interval = s.ii;
  stages = stages_of (schedule_of s);
  mii = mii_of problem.scheduling;
  resources = problem.scheduling.resources;
  recurrences = problem.scheduling.recurrences;
  cause = 0;
  file = 0;
  value = 0;
  misfit = 0;
  fault = without_fault;
}

-- the last interval, why it gives no solution, and the bounds of the problem
abbrev pub failed_answer : ProblemData → Cause → Answer
failed_answer problem why = record {
  interval = last_of problem;
  stages = 0;
  mii = mii_of problem.scheduling;
  resources = problem.scheduling.resources;
  recurrences = problem.scheduling.recurrences;
  cause = (cause_numbers why).0;
  file = (cause_numbers why).1;
  value = (cause_numbers why).2;
  misfit = 0;
  fault = without_fault;
}
