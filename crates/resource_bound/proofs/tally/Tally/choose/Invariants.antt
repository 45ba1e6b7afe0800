use Rattle.std.proofs.Common.{ℕ, ◌+◌, List}
use Rattle.machine_data.specs.declared.alternative.Row.{Row}
use Rattle.unit_bound.specs.Uses.{AtMost, Tallies}
use Rattle.resource_bound.proofs.Best.{IsBestOf}
use Rattle.resource_bound.proofs.tally.Tally.choose.Given as goal

abbrev pub invariant-loop-number : goal.invariant-loop-number
invariant-loop-number l =
    ((taken : List Row) → Tallies taken l.self.counts l.self.greatest → IsBestOf taken l.alternatives l.number l.best.number l.best.tally.counts l.best.tally.greatest)
    × ((bound : ℕ) → AtMost bound l.self.counts → AtMost (bound + 16) l.best.tally.counts)
