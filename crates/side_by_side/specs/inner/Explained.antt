-- What workers tell of why loops have their intervals.
use Rattle.std.specs.Prelude.{◌≡◌, ℕ, List}
use Rattle.machine.specs.Machines.{MachineData}
use Rattle.loop_data.specs.Loops.{LoopData}
use Rattle.loop_schedules.specs.Problems.{ProblemData}
use Rattle.loop_listings.specs.declared.choices.Choice.{Choice}
use Rattle.loop_listings.specs.Listings.{is_met}
use Rattle.explain.specs.declared.file.Explained.{Explained}
use Rattle.explain.specs.Explanations.{IsExplanationOf, IsToldOn}
use Rattle.candidates.specs.Files.{ArePrepared}
use Rattle.text_parts.specs.declared.part.Part.{Part}

-- what is told of a problem, with whether its choice is a kernel
pub record IsExplainedPart (machine : MachineData) (problem : ProblemData) (part : Part) : Type 0 where
  pub choice : Choice
  pub told : IsToldOn machine problem choice part.text.items
  pub met : part.met ≡ is_met choice

-- all that is told of loops which are prepared as these problems
abbrev pub ExplainsPrepared : MachineData → List ProblemData → Explained → Type 0
ExplainsPrepared machine problems explained =
    (ratio ceiling : ℕ) (loops : List LoopData) → ArePrepared machine ratio ceiling loops problems → IsExplanationOf machine ratio ceiling loops explained
