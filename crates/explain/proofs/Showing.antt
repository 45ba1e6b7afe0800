-- The schedule and the registers of a loop's kernel.
use Rattle.std.proofs.Common.{ℕ, refl}
use Rattle.machine_data.specs.Machines.{MachineData}
use Rattle.loop_schedules.specs.Problems.{ProblemData}
use Rattle.overlap.specs.Allotments.{Suits}
use Rattle.overlap.specs.Lifetimes.{lifetimes_of}
use Rattle.registers.proofs.allotted.Least.{least-is_lawful}
use Rattle.figures.specs.declared.figures.Figures.{Figures}
use Rattle.told_intervals.specs.declared.evidence.Met.{Met}
use Rattle.told_intervals.specs.Reasons.{IsMet}
use Rattle.schedule_lines.specs.ScheduleTexts.{schedule_text}
use Rattle.told_choices.specs.Told.{IsMetWith}
use Rattle.explain.specs.Shown.{IsShownAt}

-- the registers of an interval's kernel are those of its schedule's values
pub suits-of : (p : ProblemData) (ii : ℕ) (met : Met) → IsMet p ii met → Suits met.schedule met.allotment
suits-of p ii met is = least-is_lawful met.schedule.ii met.allotment.registers (lifetimes_of met.schedule) met.allotment.numbers is.is_least

-- what is shown of an interval's kernel
pub shown-of : (machine : MachineData) (p : ProblemData) (ii : ℕ) (met : Met) (figures : Figures) → IsMetWith p ii met figures
    → IsShownAt machine p ii (schedule_text machine met.schedule met.allotment figures)
shown-of machine p ii met figures is = record {
  schedule = met.schedule;
  is_schedule = is.is_met.is_schedule;
  allotment = met.allotment;
  same_registers = is.is_met.same_registers;
  is_least = is.is_met.is_least;
  figures = figures;
  are_figures = is.are_figures;
  is_text = refl;
}
