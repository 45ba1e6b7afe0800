use Rattle.std.proofs.Common.{take}
use Rattle.outcome_text.specs.inner.Counts.{IsCounted}
use Rattle.outcome_text.proofs.units.count_rows.Given as goal

abbrev pub invariant-loop-row : goal.invariant-loop-row
invariant-loop-row l = IsCounted (take l.row-index l.rows) l.initial.counts l.counts
