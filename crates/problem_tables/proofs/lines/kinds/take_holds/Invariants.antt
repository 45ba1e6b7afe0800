use Rattle.std.proofs.Common.{length}
use Rattle.problem_tables.specs.inner.Holds.{IsTaken}
use Rattle.problem_tables.proofs.lines.kinds.take_holds.Given as goal

abbrev pub invariant-loop-word : goal.invariant-loop-word
invariant-loop-word l = IsTaken l.units l.count l.fn.holds l.rows.items l.holds

abbrev pub decreases-loop-word : goal.decreases-loop-word
decreases-loop-word l = length l.holds
