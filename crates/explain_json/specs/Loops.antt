-- Why a loop has its interval, as JSON.
use Rattle.std.specs.Prelude.{◌≡◌, ℕ, ◌==◌, Bool, codes, List, length}
use Rattle.std.specs.List.{AllZip}
use Rattle.serde_json.specs.Data.{Data, string, array, object, member, no_members}
use Rattle.serde_json.specs.View.{items_of}
use Rattle.serde_json.specs.Written.{compact_text}
use Rattle.machine_data.specs.Machines.{MachineData}
use Rattle.edges.specs.Edges.{EdgeData}
use Rattle.walks.specs.Walks.{AreHeights}
use Rattle.loop_schedules.specs.Problems.{ProblemData, mii_of}
use Rattle.loop_listings.specs.declared.causes.Cause.{Cause}
use Rattle.candidates.specs.Choices.{last_of}
use Rattle.loop_listings.specs.Texts.{cause_word}
use Rattle.unit_sets.specs.declared.fullest.UnitSet.{UnitSet}
use Rattle.told_choices.specs.declared.chosen.Chosen.{Chosen}
use Rattle.told_choices.specs.declared.chosen.Chosen.TheVariants.{Met, Failed}
use Rattle.told_choices.specs.declared.told.Told.{Told}
use Rattle.told_choices.specs.declared.why.Why.{Why}
use Rattle.explain_json.specs.Edges.{IsEdgeObject, circuit_value}
use Rattle.explain_json.specs.Kernels.{kernel_object}
use Rattle.explain_json.specs.Operations.{operations_value}
use Rattle.explain_json.specs.Parts.{count_value}
use Rattle.explain_json.specs.Tries.{tried_value}
use Rattle.explain_json.specs.Units.{set_object, units_value}

-- what a loop's object is made of: the machine, the alternatives that the resource-constrained bound counts, the fullest set of
-- units, a critical circuit, and what is told of the loop
pub record Given : Type 0 where
  pub machine : MachineData
  pub alternatives : List ℕ
  pub set : UnitSet
  pub circuit : List EdgeData
  pub problem : ProblemData
  pub told : Told

-- what a loop is told by, whether it has a kernel or not
pub record MembersData : Type 0 where
  pub circuit : Data
  pub edges : Data
  pub operations : Data
  pub set : Data
  pub tried : Data
  pub units : Data

abbrev pub members_of : Given → List ℕ → List Data → Chosen → MembersData
members_of given heights edges chosen = record {
  circuit = circuit_value given.problem.graph.edges given.problem.recurrences given.circuit;
  edges = array (items_of edges);
  operations = operations_value given.problem heights chosen;
  set = set_object given.machine given.set;
  tried = tried_value given.problem given.told;
  units = units_value given.machine given.problem given.alternatives;
}

-- a loop with a kernel
abbrev pub met_object : ProblemData → MembersData → Data → Data
met_object problem members kernel =
    object (member (codes "circuit") members.circuit
    (member (codes "edges") members.edges
    (member (codes "kernel") kernel
    (member (codes "mii") (count_value (mii_of problem))
    (member (codes "name") (string problem.loop.name)
    (member (codes "operations") members.operations
    (member (codes "recurrences") (count_value problem.recurrences)
    (member (codes "resources") (count_value problem.resources)
    (member (codes "set") members.set
    (member (codes "tried") members.tried
    (member (codes "units") members.units no_members)))))))))))

-- a loop without one: the cause, and the last interval that was tried
abbrev pub failed_object : ProblemData → MembersData → Cause → Data
failed_object problem members cause =
    object (member (codes "cause") (string (cause_word cause))
    (member (codes "circuit") members.circuit
    (member (codes "edges") members.edges
    (member (codes "failed_to") (count_value (last_of problem))
    (member (codes "mii") (count_value (mii_of problem))
    (member (codes "name") (string problem.loop.name)
    (member (codes "operations") members.operations
    (member (codes "recurrences") (count_value problem.recurrences)
    (member (codes "resources") (count_value problem.resources)
    (member (codes "set") members.set
    (member (codes "tried") members.tried
    (member (codes "units") members.units no_members))))))))))))

-- a loop with what is chosen for it; free tells that no circuit needs the recurrence-constrained bound
abbrev pub object_with : MachineData → UnitSet → Bool → ProblemData → List Why → MembersData → Chosen → Data
object_with machine set free problem reasons members (Met ii met figures) = met_object problem members (kernel_object machine set free problem reasons ii met figures)
object_with machine set free problem reasons members (Failed cause) = failed_object problem members cause

abbrev pub object_of : Given → List ℕ → List Data → Data
object_of given heights edges =
    object_with given.machine given.set (length given.circuit == 0) given.problem given.told.reasons.items (members_of given heights edges given.told.chosen) given.told.chosen

-- the object of a loop as JSON without blanks, with the height of each operation at the least interval that is tried and the kind of each edge
pub record IsLoopJson (given : Given) (text : List ℕ) : Type 0 where
  pub heights : List ℕ
  pub are_heights : AreHeights given.problem.graph (mii_of given.problem) heights
  pub edges : List Data
  pub are_edges : AllZip (IsEdgeObject given.problem.loop given.problem.graph.latencies) given.problem.graph.edges edges
  pub is_text : text ≡ compact_text (object_of given heights edges)
