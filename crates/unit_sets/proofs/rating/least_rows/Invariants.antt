use Rattle.std.proofs.Common.{◌≡◌, ◌<◌, ◌≤◌, take}
use Rattle.unit_sets.specs.Fullest.{units_in}
use Rattle.unit_sets.specs.Sets.{least_rows as the_least_rows}
use Rattle.unit_sets.proofs.rating.least_rows.Given as goal

abbrev pub invariant-loop-number : goal.invariant-loop-number
invariant-loop-number l = (l.least ≡ the_least_rows (units_in l.set) (take l.number l.alternatives)) × (l.least ≤ 16) × (0 < l.number)
