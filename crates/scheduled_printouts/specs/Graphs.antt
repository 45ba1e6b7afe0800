-- What `dot --scheduled` prints.
use Rattle.std.specs.Prelude.{◌≡◌, ℕ, Bool, List}
use Rattle.std.specs.List.{list_all}
use Rattle.machine.specs.Machines.{MachineData}
use Rattle.loop_data.specs.Loops.{LoopData}
use Rattle.lower_bounds.specs.Texts.{AreTexts}
use Rattle.loop_schedules.specs.Problems.{ProblemData}
use Rattle.loop_schedules.specs.Schedules.{ScheduleData}
use Rattle.loop_listings.specs.declared.choices.Choice.{Choice}
use Rattle.loop_listings.specs.declared.choices.Choice.TheVariants.{Met, Failed}
use Rattle.candidates.specs.Choices.{IsChoice}
use Rattle.loop_listings.specs.Listings.{is_met}
use Rattle.candidates.specs.Outcomes.{IsPlacedAs}
use Rattle.candidates.specs.Files.{ArePrepared}
use Rattle.scheduled_graphs.specs.Drawn.{IsScheduledGraph, IsUnscheduledGraph}
use Rattle.written.specs.Written.{Written}

-- a loop's choice, and the graph of the loop
pub record DrawnData : Type 0 where
  pub choice : Choice
  pub text : List ℕ

-- the graph of a choice: with the schedule that the attempt at the chosen interval gives, or with the cause for which there is none
abbrev pub IsGraphOfChoice : ProblemData → Choice → List ℕ → Type 0
IsGraphOfChoice problem (Met ii kernel) text = (schedule : ScheduleData) × IsPlacedAs problem ii schedule × IsScheduledGraph schedule text
IsGraphOfChoice problem (Failed cause) text = IsUnscheduledGraph problem cause text

-- the choice of a problem, and the graph of that choice
pub record IsDrawn (problem : ProblemData) (drawn : DrawnData) : Type 0 where
  pub is_choice : IsChoice problem drawn.choice
  pub is_graph : IsGraphOfChoice problem drawn.choice drawn.text

-- a graph for each problem, one after another, with whether each choice is a kernel
pub record AreDrawn (problems : List ProblemData) (text : List ℕ) (met : Bool) : Type 0 where
  pub graphs : AreTexts IsDrawn (λ problem (drawn : DrawnData). drawn.text) problems text
  pub all_met : met ≡ list_all (λ (drawn : DrawnData). is_met drawn.choice) graphs.values

-- a graph for each loop on the machine, one after another, with whether every loop has a kernel
pub record AreScheduledGraphs (ratio ceiling : ℕ) (machine : MachineData) (loops : List LoopData) (written : Written) : Type 0 where
  pub problems : List ProblemData
  pub each_problem : ArePrepared machine ratio ceiling loops problems
  pub drawn : AreDrawn problems written.text written.all_met
