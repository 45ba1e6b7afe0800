use Rattle.std.proofs.Common.{◌<◌, List, length}
use Rattle.machine_data.specs.declared.alternative.Row.{Row}
use Rattle.unit_bound.specs.Uses.{Tallies}
use Rattle.unit_bound.proofs.Best.{IsBestUpTo}
use Rattle.unit_bound.proofs.units.Uses.best_of.Given as goal

abbrev pub invariant-loop-number : goal.invariant-loop-number
invariant-loop-number l = record {
  there : l.best < length l.alternatives;
  best : (taken : List Row) → Tallies taken l.self.counts l.self.greatest → IsBestUpTo taken l.alternatives l.number l.best l.least;
}
