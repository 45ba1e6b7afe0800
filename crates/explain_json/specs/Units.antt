-- The units that the resource-constrained lower bound of a loop counts, and the fullest set of units, as JSON.
use Rattle.std.specs.Prelude.{ℕ, zero, suc, ◌==◌, codes, List, [], ◌∷◌, length, filter, sum_by}
use Rattle.std.specs.List.{flat_map, range_with_len, slice_index_or}
use Rattle.serde_json.specs.Data.{Data, boolean, string, array, object, member, no_members}
use Rattle.serde_json.specs.View.{items_of}
use Rattle.machine_data.specs.Machines.{MachineData}
use Rattle.unit_bound.specs.Units.{use_of}
use Rattle.loop_schedules.specs.Problems.{ProblemData}
use Rattle.resource_bound.specs.Choices.{rows_at}
use Rattle.unit_sets.specs.declared.fullest.UnitSet.{UnitSet}
use Rattle.unit_sets.specs.Fullest.{units_in}
use Rattle.unit_sets.specs.Sets.{is_in}
use Rattle.explain_json.specs.Parts.{array_of, count_value}

abbrev pub unit_name : MachineData → ℕ → List ℕ
unit_name machine unit = slice_index_or machine.units unit []

-- the numbers of the operations, and of the units
abbrev pub operations_in : ProblemData → List ℕ
operations_in problem = range_with_len 0 (length problem.operations)

abbrev pub units_of : MachineData → List ℕ
units_of machine = range_with_len 0 (length machine.units)

-- by how many rows an operation uses a unit, by the alternatives that are chosen
abbrev pub use_by : ProblemData → List ℕ → ℕ → ℕ → ℕ
use_by problem choices unit op = use_of (rows_at problem.operations choices op) unit

-- by how many rows all operations use it
abbrev pub uses_of : ProblemData → List ℕ → ℕ → ℕ
uses_of problem choices unit = sum_by (use_by problem choices unit) (operations_in problem)

-- an operation with by how many rows it uses a unit; nothing where it does not
abbrev pub user_objects : ℕ → ℕ → List Data
user_objects op zero = []
user_objects op (suc n) = object (member (codes "operation") (count_value op) (member (codes "uses") (count_value (suc n)) no_members)) ∷ []

-- the operations that use a unit, in text order
abbrev pub users_of : ProblemData → List ℕ → ℕ → List Data
users_of problem choices unit = flat_map (λ op. user_objects op (use_by problem choices unit op)) (operations_in problem)

-- a unit that is used by so many rows; nothing where there are none. It is full where the bound is due to it
abbrev pub unit_objects : MachineData → ProblemData → List ℕ → ℕ → ℕ → List Data
unit_objects machine problem choices unit zero = []
unit_objects machine problem choices unit (suc n) =
    object (member (codes "full") (boolean (suc n == problem.resources))
    (member (codes "name") (string (unit_name machine unit))
    (member (codes "users") (array (items_of (users_of problem choices unit)))
    (member (codes "uses") (count_value (suc n)) no_members)))) ∷ []

-- the units that are used, in the machine's order
abbrev pub units_value : MachineData → ProblemData → List ℕ → Data
units_value machine problem choices =
    array (items_of (flat_map (λ unit. unit_objects machine problem choices unit (uses_of problem choices unit)) (units_of machine)))

-- the fullest set: the interval that it needs, the rows that its units have at least, and its units in the machine's order
abbrev pub set_object : MachineData → UnitSet → Data
set_object machine set =
    object (member (codes "need") (count_value set.need)
    (member (codes "rows") (count_value set.rows)
    (member (codes "units") (array_of (λ unit. string (unit_name machine unit)) (filter (is_in (units_in set.units)) (units_of machine))) no_members)))
