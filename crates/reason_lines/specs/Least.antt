-- The least interval that is possible.
use Rattle.std.specs.Prelude.{◌≡◌, ℕ, ◌==◌, ◌<◌, ◌≤◌, max, Bool, true, if◌then◌else◌, codes, List, []}
use Rattle.machine_data.specs.declared.alternative.Row.{Row}
use Rattle.edges.specs.Edges.{EdgeData}
use Rattle.edges.specs.Schedules.{IsLawfulSchedule}
use Rattle.walks.specs.Walks.{IsRecurrenceBound}
use Rattle.unit_sets.specs.declared.fullest.UnitSet.{UnitSet}
use Rattle.unit_sets.specs.Fullest.{IsFullest}

-- the interval is what the fullest set of units, which has a need, or the recurrences need, so that no lawful schedule has a shorter one
abbrev pub is_least_possible : ℕ → ℕ → ℕ → Bool
is_least_possible need recurrences ii = max need recurrences == ii

-- `least possible`, with a line feed, where that is so
abbrev pub least_line : Bool → List ℕ
least_line least = if least then codes "least possible\n" else []

-- where an interval is what the fullest set of units or the recurrences need, no lawful schedule has a shorter one
abbrev pub LeastIsLeast : Type 0
LeastIsLeast = (operations : List (List (List Row))) (edges : List EdgeData) (set : UnitSet) (recurrences ii shorter : ℕ) (times choices : List ℕ) → IsFullest operations set
    → IsRecurrenceBound edges recurrences → is_least_possible set.need recurrences ii ≡ true → 0 < shorter → IsLawfulSchedule shorter operations edges times choices → ii ≤ shorter
