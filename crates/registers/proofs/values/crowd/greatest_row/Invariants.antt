use Rattle.std.proofs.Common.{◌<◌}
use Rattle.registers.proofs.values.crowd.greatest_row.Given as goal

abbrev pub invariant-loop-row : goal.invariant-loop-row
invariant-loop-row l = l.found < l.ii
