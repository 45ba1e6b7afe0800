-- The labels of a schedule's operations.
use Rattle.std.specs.Prelude.{ℕ, List, map, Vec}
use Rattle.std.specs.Global.{Global}
use Rattle.loop_schedules.specs.Schedules.{ScheduleData}
use Rattle.figures.specs.Slots.{operations_in}
use Rattle.schedule_lines.specs.SlotTexts.{label_of}

-- texts, each as its bytes
abbrev pub texts_in : List (Vec ℕ Global) → List (List ℕ)
texts_in texts = map (λ (text : Vec ℕ Global). text.items) texts

abbrev pub labels_of : ScheduleData → List (List ℕ)
labels_of schedule = map (label_of schedule) (operations_in schedule)
