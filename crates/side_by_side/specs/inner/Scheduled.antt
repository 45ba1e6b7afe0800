-- What workers draw of loops with their schedules.
use Rattle.std.specs.Prelude.{◌≡◌, ℕ, List}
use Rattle.machine.specs.Machines.{MachineData}
use Rattle.loop_data.specs.Loops.{LoopData}
use Rattle.loop_schedules.specs.Problems.{ProblemData}
use Rattle.loop_listings.specs.Listings.{is_met}
use Rattle.candidates.specs.Files.{ArePrepared}
use Rattle.written.specs.Written.{Written}
use Rattle.scheduled_printouts.specs.Graphs.{AreScheduledGraphs, DrawnData, IsDrawn}
use Rattle.text_parts.specs.declared.part.Part.{Part}

-- the graph of a problem, with whether its choice is a kernel
pub record IsDrawnPart (problem : ProblemData) (part : Part) : Type 0 where
  pub drawn : DrawnData
  pub is_drawn : IsDrawn problem drawn
  pub met : part.met ≡ is_met drawn.choice
  pub is_text : part.text.items ≡ drawn.text

-- the graphs of loops which are prepared as these problems
abbrev pub DrawsPrepared : List ProblemData → Written → Type 0
DrawsPrepared problems written = (ratio ceiling : ℕ) (machine : MachineData) (loops : List LoopData) → ArePrepared machine ratio ceiling loops problems
    → AreScheduledGraphs ratio ceiling machine loops written
