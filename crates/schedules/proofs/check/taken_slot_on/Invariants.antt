use Rattle.std.proofs.Common.{◌≡◌}
use Rattle.schedules.proofs.lawfulness.Checking.{ArePlaced}
use Rattle.schedules.proofs.check.taken_slot_on.Given as goal

abbrev pub invariant-loop-op : goal.invariant-loop-op
invariant-loop-op g l = record {
  are : ArePlaced (g.T.ModuloTable.interval l.fn.table) l.problem.operations l.places (g.T.ModuloTable.placed l.table) l.op;
  operations : g.T.ModuloTable.operations l.table ≡ l.problem.operations;
  interval : g.T.ModuloTable.interval l.table ≡ g.T.ModuloTable.interval l.fn.table;
}
