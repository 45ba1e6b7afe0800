use Rattle.std.proofs.Common.{◌≡◌, ℕ, ◌+◌, ◌*◌, List, length}
use Rattle.walks.specs.Walks.{AreHeights}
use Rattle.modulo.specs.inner.Progress.{AreBelow}
use Rattle.modulo.specs.Scheduling.{LeadsTo}
use Rattle.modulo.specs.inner.Waiting.{IsByHeight}
use Rattle.modulo.proofs.stepping.steps.run.Given as goal

abbrev pub invariant-loop-step : goal.invariant-loop-step
invariant-loop-step g l = record {
  leads : (heights : List ℕ) → AreHeights l.problem.graph (g.T.ModuloTable.interval l.fn.table) heights → length heights ≡ length l.problem.operations
      → IsByHeight heights l.fn.progress.order → LeadsTo l.problem (g.T.ModuloTable.interval l.fn.table) heights l._step l.progress.state;
  below : AreBelow (l._step * (g.T.ModuloTable.interval l.fn.table + 65)) l.progress.state;
  whole : length l.progress.state.placed ≡ length l.problem.operations;
  tied : g.T.ModuloTable.placed l.table ≡ l.progress.state.placed;
  operations : g.T.ModuloTable.operations l.table ≡ l.problem.operations;
  interval : g.T.ModuloTable.interval l.table ≡ g.T.ModuloTable.interval l.fn.table;
  order : l.progress.order ≡ l.fn.progress.order;
}
