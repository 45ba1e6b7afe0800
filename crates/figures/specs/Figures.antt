-- Figures of a schedule.
use Rattle.std.specs.Prelude.{◌≡◌}
use Rattle.loop_schedules.specs.Schedules.{ScheduleData}
use Rattle.overlap.specs.Lifetimes.{last_landing}
use Rattle.rotating.specs.Needs.{IsNeed}
use Rattle.figures.specs.declared.figures.Figures.{Figures}
use Rattle.figures.specs.Slacks.{AreSlacks}

-- how long an iteration takes, the slack of each operation, and how many rotating registers the values need
pub record AreFigures (schedule : ScheduleData) (figures : Figures) : Type 0 where
  pub cycles : figures.cycles ≡ last_landing schedule
  pub slacks : AreSlacks schedule figures.slacks.items
  pub need : IsNeed schedule figures.need
