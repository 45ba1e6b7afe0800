-- Why loops have the intervals that they have, as JSON objects.
use Rattle.std.specs.Prelude.{◌≡◌, ℕ, List}
use Rattle.machine_data.specs.Machines.{MachineData}
use Rattle.edges.specs.Edges.{EdgeData}
use Rattle.graph.specs.Units.{operations_of}
use Rattle.graph_text.specs.Drawings.{IsCritical}
use Rattle.resource_bound.specs.Choices.{AreUnitChoices}
use Rattle.unit_sets.specs.declared.fullest.UnitSet.{UnitSet}
use Rattle.unit_sets.specs.Fullest.{IsFullest}
use Rattle.loop_schedules.specs.Problems.{ProblemData}
use Rattle.loop_listings.specs.declared.choices.Choice.{Choice}
use Rattle.told_choices.specs.declared.told.Told.{Told}
use Rattle.told_choices.specs.Told as chosen
use Rattle.explain_json.specs.Loops.{IsLoopJson}

-- the object of a problem with its choice: what is told of the loop, with a circuit that needs the recurrence-constrained bound
pub record IsObject (machine : MachineData) (alternatives : List ℕ) (set : UnitSet) (problem : ProblemData) (choice : Choice) (text : List ℕ) : Type 0 where
  pub circuit : List EdgeData
  pub critical : IsCritical problem.graph.edges problem.recurrences circuit
  pub told : Told
  pub is_told : chosen.IsTold problem told
  pub is_choice : choice ≡ chosen.choice_of told.chosen
  pub is_json : IsLoopJson (record { machine = machine; alternatives = alternatives; set = set; circuit = circuit; problem = problem; told = told }) text

-- that, with the choices of the problem's resource-constrained bound and the fullest set of units
pub record IsObjectOn (machine : MachineData) (problem : ProblemData) (choice : Choice) (text : List ℕ) : Type 0 where
  pub alternatives : List ℕ
  pub are_best : AreUnitChoices (operations_of machine problem.loop) alternatives
  pub set : UnitSet
  pub is_fullest : IsFullest (operations_of machine problem.loop) set
  pub object : IsObject machine alternatives set problem choice text
