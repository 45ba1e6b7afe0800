use Rattle.std.proofs.Common.{◌≡◌, map}
use Rattle.std.specs.List.{range_with_len}
use Rattle.figures.specs.LiveCounts.{live_count}
use Rattle.figures.proofs.live_counts.counts_of.Given as goal

abbrev pub invariant-loop-row : goal.invariant-loop-row
invariant-loop-row l = l.counts.items ≡ map (live_count l.schedule) (range_with_len 0 l.row)
