use Rattle.std.proofs.Common.{ℕ, ◌<◌, ◌≤◌}
use Rattle.mrt.specs.Placements.{IsFree}
use Rattle.mrt.proofs.table.ModuloTable.first_free.Given as goal

-- no time before this one has served
abbrev pub invariant-loop-time : goal.invariant-loop-time
invariant-loop-time g l =
    (sooner : ℕ) → sooner < l.time → (alternative : ℕ) → l.start ≤ sooner
    → IsFree (g.Self.ModuloTable.interval l.self) (g.Self.ModuloTable.operations l.self) (g.Self.ModuloTable.placed l.self) l.op sooner alternative → ⊥
