-- The schedule and the registers of a loop's kernel, as text.
use Rattle.std.specs.Prelude.{◌≡◌, ℕ, List, []}
use Rattle.machine_data.specs.Machines.{MachineData}
use Rattle.loop_schedules.specs.Problems.{ProblemData}
use Rattle.loop_schedules.specs.Schedules.{ScheduleData}
use Rattle.overlap.specs.Allotments.{AllotmentData, LeastFor}
use Rattle.figures.specs.declared.figures.Figures.{Figures}
use Rattle.figures.specs.Figures.{AreFigures}
use Rattle.loop_listings.specs.declared.choices.Choice.{Choice}
use Rattle.loop_listings.specs.declared.choices.Choice.TheVariants.{Met, Failed}
use Rattle.candidates.specs.Outcomes.{IsPlacedAs}
use Rattle.schedule_lines.specs.ScheduleTexts.{schedule_text}

-- the schedule that the attempt at an interval gives, with the least registers of its values and its figures
pub record IsShownAt (machine : MachineData) (problem : ProblemData) (ii : ℕ) (text : List ℕ) : Type 0 where
  pub schedule : ScheduleData
  pub is_schedule : IsPlacedAs problem ii schedule
  pub allotment : AllotmentData
  pub same_registers : allotment.registers ≡ problem.registers
  pub is_least : LeastFor schedule allotment
  pub figures : Figures
  pub are_figures : AreFigures schedule figures
  pub is_text : text ≡ schedule_text machine schedule allotment figures

-- that of the chosen interval, where there is one
abbrev pub IsShown : MachineData → ProblemData → Choice → List ℕ → Type 0
IsShown machine problem (Met ii kernel) text = IsShownAt machine problem ii text
IsShown machine problem (Failed cause) text = text ≡ []
