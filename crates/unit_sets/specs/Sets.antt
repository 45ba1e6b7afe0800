-- How often the operations of an iteration have to use a set of units, whichever alternatives they take. A set of units is a list
-- of their numbers, in increasing order where it is a result.
use Rattle.std.specs.Prelude.{ℕ, ◌*◌, ◌<◌, ◌≤◌, ◌==◌, min, Bool, List, [], ◌∷◌, length, map, count_by}
use Rattle.std.specs.List.{list_any, sum_by, fold}
use Rattle.machine_data.specs.declared.alternative.Row.{Row}
use Rattle.edges.specs.Edges.{EdgeData}
use Rattle.edges.specs.Schedules.{IsLawfulSchedule}

-- whether the unit is one of the set
abbrev pub is_in : List ℕ → ℕ → Bool
is_in set unit = list_any (λ member. member == unit) set

-- how many of the rows are of units of the set
abbrev pub rows_in : List ℕ → List Row → ℕ
rows_in set rows = count_by (λ (r : Row). is_in set r.unit) rows

-- the least of these numbers, 0 where there are none
abbrev pub least_of : List ℕ → ℕ
least_of [] = 0
least_of (n ∷ ns) = fold min n ns

-- how many rows of units of the set an operation has at least, whichever of its alternatives it takes
abbrev pub least_rows : List ℕ → List (List Row) → ℕ
least_rows set alternatives = least_of (map (rows_in set) alternatives)

-- how many rows of units of the set all operations have at least. Over the number of the set's units this is the set's fraction
abbrev pub set_rows : List ℕ → List (List (List Row)) → ℕ
set_rows set operations = sum_by (least_rows set) operations

-- whatever the set of units, a lawful schedule at an interval takes at least the rows that are needed, and each unit of the set
-- has one slot for each residue
abbrev pub SchedulesKeepSets : Type 0
SchedulesKeepSets = (set : List ℕ) (operations : List (List (List Row))) (edges : List EdgeData) (ii : ℕ) (times choices : List ℕ) → 0 < ii
    → IsLawfulSchedule ii operations edges times choices → set_rows set operations ≤ length set * ii
