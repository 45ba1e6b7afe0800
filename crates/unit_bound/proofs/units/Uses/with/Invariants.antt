use Rattle.std.proofs.Common.{ℕ, ◌+◌, List, ◌++◌, take}
use Rattle.machine_data.specs.declared.alternative.Row.{Row}
use Rattle.unit_bound.specs.Uses.{AtMost, Tallies}
use Rattle.unit_bound.proofs.units.Uses.with.Given as goal

abbrev pub invariant-loop-row : goal.invariant-loop-row
invariant-loop-row l = ((taken : List Row) → Tallies taken l.initial.counts l.initial.greatest → Tallies (taken ++ take l.row-index l.rows) l.counts l.greatest)
    × ((bound : ℕ) → AtMost bound l.initial.counts → AtMost (bound + l.row-index) l.counts)
