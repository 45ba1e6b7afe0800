use Rattle.std.proofs.Common.{◌≡◌, take}
use Rattle.unit_bound.specs.Units.{greatest_of}
use Rattle.figures.proofs.live_counts.greatest_of.Given as goal

abbrev pub invariant-loop-count : goal.invariant-loop-count
invariant-loop-count l = l.greatest ≡ greatest_of (take l.count-index l.counts)
