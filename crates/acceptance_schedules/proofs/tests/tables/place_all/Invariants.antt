use Rattle.std.proofs.Common.{◌≡◌, ℕ, ◌≤◌, None}
use Rattle.mrt.specs.Placements.{placement_of}
use Rattle.acceptance_schedules.proofs.tests.tables.place_all.Given as goal

-- nothing is placed from here on
abbrev pub invariant-loop-op : goal.invariant-loop-op
invariant-loop-op g l = record {
  operations : g.T.ModuloTable.operations l.table ≡ g.T.ModuloTable.operations l.initial.table;
  interval : g.T.ModuloTable.interval l.table ≡ g.T.ModuloTable.interval l.initial.table;
  unplaced : (op : ℕ) → l.op ≤ op → placement_of (g.T.ModuloTable.placed l.table) op ≡ None;
}
