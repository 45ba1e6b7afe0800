-- No schedule is shorter than what the fullest set of units or the recurrences need.
use Rattle.std.proofs.Common.{◌≡◌, ◌≤◌, ◌<◌, ℕ, List, max, true, arith}
use Rattle.std.proofs.lemmas.Bool.{eqb-true}
use Rattle.machine_data.specs.declared.alternative.Row.{Row}
use Rattle.edges.specs.Edges.{EdgeData}
use Rattle.edges.specs.Schedules.{IsLawfulSchedule}
use Rattle.walks.specs.Walks.{IsRecurrenceBound}
use Rattle.walks.proofs.Recurrences.{schedules-keep_recurrences}
use Rattle.unit_sets.specs.declared.fullest.UnitSet.{UnitSet}
use Rattle.unit_sets.specs.Fullest.{IsFullest}
use Rattle.unit_sets.proofs.Bounds.{bound}
use Rattle.reason_lines.specs.Least.{is_least_possible}

pub least-keeps : (operations : List (List (List Row))) (edges : List EdgeData) (set : UnitSet) (recurrences ii shorter : ℕ) (times choices : List ℕ) → IsFullest operations set
    → IsRecurrenceBound edges recurrences → is_least_possible set.need recurrences ii ≡ true → 0 < shorter → IsLawfulSchedule shorter operations edges times choices → ii ≤ shorter
least-keeps operations edges set recurrences ii shorter times choices fullest bounds least some lawful =
    let e : max set.need recurrences ≡ ii = eqb-true (max set.need recurrences) ii least in
    let a : set.need ≤ shorter = bound operations set edges shorter times choices fullest some lawful in
    let b : recurrences ≤ shorter = schedules-keep_recurrences edges recurrences shorter times bounds some lawful.keeps_edges in
    omega arith
