use Rattle.std.proofs.Common.{ℕ, ◌<◌}
use Rattle.schedules.specs.inner.Listed.{IsTaken}
use Rattle.schedules.proofs.check.clash.Given as goal

-- no row before this one takes the slot of a row before it
abbrev pub invariant-loop-i : goal.invariant-loop-i
invariant-loop-i g l =
    (k holder : ℕ) → k < l.i
    → IsTaken (g.T.ModuloTable.interval l.table) (g.T.ModuloTable.operations l.table) (g.T.ModuloTable.placed l.table) l.rows l.op l.time k holder → ⊥
