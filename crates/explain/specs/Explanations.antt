-- Why loops have the intervals that they have, as text.
use Rattle.std.specs.Prelude.{◌≡◌, ℕ, ◌==◌, codes, List, ◌++◌, length, count_by}
use Rattle.machine_data.specs.Machines.{MachineData}
use Rattle.loop_data.specs.Loops.{LoopData}
use Rattle.lower_bounds.specs.declared.measuring.LowerBounds.{LowerBounds}
use Rattle.lower_bounds.specs.Bounds.{bounds_line}
use Rattle.lower_bounds.specs.Texts.{AreTexts}
use Rattle.graph.specs.Units.{operations_of}
use Rattle.resource_bound.specs.Choices.{AreUnitChoices}
use Rattle.resource_bound.specs.UnitLines.{unit_lines_of}
use Rattle.loop_schedules.specs.Problems.{ProblemData, IsProblemOf}
use Rattle.loop_listings.specs.declared.choices.Choice.{Choice}
use Rattle.loop_listings.specs.Listings.{is_met, is_failed}
use Rattle.unit_sets.specs.declared.fullest.UnitSet.{UnitSet}
use Rattle.unit_sets.specs.Fullest.{IsFullest}
use Rattle.writing.specs.Words as words
use Rattle.explain.specs.declared.file.Explained.{Explained}
use Rattle.explain.specs.CircuitTexts.{IsCircuitText}
use Rattle.explain.specs.SetLines.{set_line}
use Rattle.explain.specs.Shown.{IsShown}
use Rattle.explain.specs.Tries.{AreTries}

-- the two lower bounds of a problem
abbrev pub bounds_of : ProblemData → LowerBounds
bounds_of problem = record { resources = problem.resources; recurrences = problem.recurrences }

-- a loop with its choice: the line of its lower bounds, the lines of the units, a circuit that needs the recurrence-constrained
-- bound, and what was tried. The fullest set of units has a need
pub record IsExplained (units : List ℕ) (need : ℕ) (problem : ProblemData) (choice : Choice) (text : List ℕ) : Type 0 where
  pub circuit : List ℕ
  pub is_circuit : IsCircuitText problem circuit
  pub tries : List ℕ
  pub are_tries : AreTries problem need (length is_circuit.circuit == 0) choice tries
  pub is_text : text ≡ ((bounds_line problem.loop (bounds_of problem) ++ units) ++ circuit) ++ tries

-- that, and the schedule and the registers of the chosen interval after it
pub record IsTold (machine : MachineData) (units : List ℕ) (need : ℕ) (problem : ProblemData) (choice : Choice) (text : List ℕ) : Type 0 where
  pub explanation : List ℕ
  pub is_explanation : IsExplained units need problem choice explanation
  pub shown : List ℕ
  pub is_shown : IsShown machine problem choice shown
  pub is_text : text ≡ explanation ++ shown

-- that, with the lines of the units by the choices of the problem's resource-constrained bound, and the line of the fullest set of units
pub record IsToldOn (machine : MachineData) (problem : ProblemData) (choice : Choice) (text : List ℕ) : Type 0 where
  pub alternatives : List ℕ
  pub are_best : AreUnitChoices (operations_of machine problem.loop) alternatives
  pub set : UnitSet
  pub is_fullest : IsFullest (operations_of machine problem.loop) set
  pub told : IsTold machine (unit_lines_of machine problem.loop alternatives ++ set_line machine set) set.need problem choice text

-- the problem of a loop on a machine, the choices of the resource-constrained bound and the fullest set of units, with that
pub record IsPartOf (machine : MachineData) (ratio ceiling : ℕ) (loop : LoopData) (choice : Choice) (text : List ℕ) : Type 0 where
  pub problem : ProblemData
  pub is_problem : IsProblemOf machine loop ratio ceiling problem
  pub alternatives : List ℕ
  pub are_best : AreUnitChoices (operations_of machine loop) alternatives
  pub set : UnitSet
  pub is_fullest : IsFullest (operations_of machine loop) set
  pub told : IsTold machine (unit_lines_of machine loop alternatives ++ set_line machine set) set.need problem choice text

-- a loop's choice, and what is told of the loop
pub record PartData : Type 0 where
  pub choice : Choice
  pub text : List ℕ

-- what is told of loops, one after another, with how many have a kernel and how many have none
pub record ArePartsOf (machine : MachineData) (ratio ceiling : ℕ) (loops : List LoopData) (text : List ℕ) (met failed : ℕ) : Type 0 where
  pub parts : AreTexts (λ loop (part : PartData). IsPartOf machine ratio ceiling loop part.choice part.text) (λ loop part. part.text) loops text
  pub number_met : met ≡ count_by (λ (part : PartData). is_met part.choice) parts.values
  pub number_failed : failed ≡ count_by (λ (part : PartData). is_failed part.choice) parts.values

-- `loops A met B failed F`, with a line feed
abbrev pub last_line : ℕ → ℕ → ℕ → List ℕ
last_line loops met failed = words.last_line (codes "loops ") loops met failed

-- what is told of all loops of a file, with whether none is without a kernel
pub record IsExplanationOf (machine : MachineData) (ratio ceiling : ℕ) (loops : List LoopData) (explained : Explained) : Type 0 where
  pub text : List ℕ
  pub met : ℕ
  pub failed : ℕ
  pub parts : ArePartsOf machine ratio ceiling loops text met failed
  pub is_text : explained.text.items ≡ text ++ last_line (length loops) met failed
  pub all_met : explained.all_met ≡ (failed == 0)
